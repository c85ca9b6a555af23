-- What is kept of a session, by value: the tests that the code makes of it.
-- What a rule means is said over the whole journal, in beep_journal.
use Rattle.std.specs.Prelude.{◌≡◌, ℕ, ◌==◌, Bool, false, ◌&&◌, if◌then◌else◌, List, length, Option, None, Some, option_map}
use Rattle.std.specs.Option.{option_map_or}
use Rattle.std.specs.Ordering.{nat_cmp}
use Rattle.std.specs.BTreeMap.{get}
use Rattle.beep_frame.specs.declared.head.Head.{Head}
use Rattle.beep_frame.specs.declared.rule.Rule.{Rule}
use Rattle.beep_frame.specs.declared.seq.Seq.{Seq}
use Rattle.beep_history.specs.declared.journal.Side.{Side}
use Rattle.beep_exchange.specs.Kept.{judged}
use Rattle.beep_judge.specs.declared.life.Life.{Life}
use Rattle.beep_judge.specs.Flows.{is_bad_ackno}
use Rattle.beep_judge.specs.declared.half.Frame.{Frame}
use Rattle.beep_judge.specs.declared.channels.Channels.{Channels}
use Rattle.beep_judge.specs.declared.session.Session.{Session}

-- ---- one life

-- the header of a side that is under way
abbrev pub under : Side → Life → Option Head
under Side.Received life = life.exchange.received.under_way
under Side.Sent life = life.exchange.sent.under_way

-- the first rule of the exchange that a header of a side breaks, by what is kept
abbrev pub judged_of : Side → Life → Head → Option Rule
judged_of Side.Received life head = judged life.exchange.received life.exchange.sent head
judged_of Side.Sent life head = judged life.exchange.sent life.exchange.received head

-- the octets of a side that are not acknowledged
abbrev pub unacked_of : Side → Life → ℕ
unacked_of Side.Received life = life.read.unacked
unacked_of Side.Sent life = life.written.unacked

-- a SEQ of a side acknowledges octets of the other that have not passed, or fewer than before
abbrev pub is_bad_seq : Side → Life → Seq → Bool
is_bad_seq Side.Received life seq = is_bad_ackno life.written seq.ackno
is_bad_seq Side.Sent life seq = is_bad_ackno life.read seq.ackno

-- ---- all lives

-- the live life of a number; that of 0 is channel zero's
abbrev pub life_at : ℕ → Channels → Option Life
life_at number channels =
    if number == 0 then Some channels.zero else get nat_cmp channels.lives number

-- the live life of a number has this stamp
abbrev pub is_current : ℕ → ℕ → Channels → Bool
is_current number stamp channels =
    option_map_or (λ life. life.stamp == stamp) (life_at number channels) false

-- the header under way, where it began in the life of this number and stamp
abbrev pub under_of : ℕ → ℕ → Option Frame → Option Head
under_of number stamp None = None
under_of number stamp (Some frame) =
    if frame.head.channel == number && frame.stamp == stamp then Some frame.head else None

-- a SEQ of a side is a bad one to the live life of its number
abbrev pub is_bad_at : Side → Channels → Seq → Bool
is_bad_at side channels seq =
    option_map_or (λ life. is_bad_seq side life seq) (life_at seq.channel channels) false

-- the header of a side that is under way in a session
abbrev pub under_way_of : Side → Session → Option Head
under_way_of Side.Received session = option_map (λ f. f.head) session.received.under_way
under_way_of Side.Sent session = option_map (λ f. f.head) session.sent.under_way

-- a frame of a side is under way, and this is its payload
pub record IsWhole (side : Side) (session : Session) (payload : List ℕ) : Type 0 where
  pub head : Head
  pub begun : under_way_of side session ≡ Some head
  pub size : length payload ≡ head.size
