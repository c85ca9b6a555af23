-- The sums that tie what is unsent and untaken to what an exchange keeps: of each direction so many
-- requests have begun, and each of them is at one place (RFC 3080, sections 2.1 and 2.6.1).
-- The code keeps positions modulo 2^64 and no sum.
use Rattle.std.specs.Prelude.{◌≡◌, ℕ, ◌+◌, ◌-◌, ◌<◌, ◌≤◌, Bool, true, false, not, ◌&&◌, nat_lt, if◌then◌else◌, List, [], ◌∷◌}
use Rattle.std.specs.Option.{option_map_or}
use Rattle.beep_frame.specs.declared.head.Head.{Head}
use Rattle.beep_frame.specs.declared.tag.Tag.{Tag}
use Rattle.beep_frame.specs.declared.kind.Kind.{Kind}
use Rattle.beep_frame.specs.Modulo.{modulo_2_64 as count_modulo_2_64}
use Rattle.beep_frame.specs.Frame.{is_msg, is_ans, is_reply}
use Rattle.beep_history.specs.declared.limits.TheConstants.{MAX_ANSWERS}
use Rattle.beep_history.specs.Marks.{modulo_2_64}
use Rattle.beep_exchange.specs.declared.answer.Answer.{Answer}
use Rattle.beep_exchange.specs.Kept.{Kept, is_open}
use Rattle.beep_exchange.specs.declared.given.Given.{Given}
use Rattle.beep_exchange.specs.Given.{ends_reply}
use Rattle.beep_inbox.specs.Runs.{Run, AllMarked, octets_of}
use Rattle.beep_outbox.specs.Queue.{Message}
use Rattle.beep_channel.specs.Fits.{replies, asks, as_number}

-- ---- what is untaken

-- the messages of this kind whose end is untaken
abbrev pub ended_of : (Kind → Bool) → List Run → ℕ
ended_of test [] = 0
ended_of test (r ∷ rs) =
    if r.ended && test r.tag.kind then ended_of test rs + 1 else ended_of test rs

-- each run has its message's position: replies from that of the first own request whose reply is
-- untaken on, requests from that of the first untaken one on
abbrev pub IsPlaced : ℕ → ℕ → List Run → Type 0
IsPlaced own theirs [] = Unit {0}
IsPlaced own theirs (r ∷ rs) =
    (r.tag.request ≡ count_modulo_2_64 (if is_msg r.tag.kind then theirs else own))
    × IsPlaced (if r.ended && ends_reply r.tag.kind then own + 1 else own)
    (if r.ended && is_msg r.tag.kind then theirs + 1 else theirs) rs

-- a reply that is untaken belongs to a request whose reply's end is untaken too, or to one that
-- waits
abbrev pub IsAnswerable : ℕ → List Run → Type 0
IsAnswerable waits [] = Unit {0}
IsAnswerable waits (r ∷ rs) =
    (is_reply r.tag.kind ≡ true → 0 < ended_of ends_reply (r ∷ rs) + waits) × IsAnswerable waits rs

-- how many of these unfinished answers have octets
abbrev pub filled : List Answer → ℕ
filled [] = 0
filled (answer ∷ answers) = if nat_lt 0 answer.octets then filled answers + 1 else filled answers

-- from each run on, the ends of answers are at most the octets and `MAX_ANSWERS` more, and that
-- also once each unfinished answer that has octets has ended: the octets of an answer may be taken
-- before its end arrives, but of no more than `MAX_ANSWERS` at a time
abbrev pub AreEndsFew : ℕ → List Run → Type 0
AreEndsFew unfinished [] = unfinished ≤ MAX_ANSWERS
AreEndsFew unfinished (r ∷ rs) =
    (ended_of is_ans (r ∷ rs) + unfinished ≤ octets_of (r ∷ rs) + MAX_ANSWERS)
    × AreEndsFew unfinished rs

-- ---- what is unsent

-- a request of the sender is partly sent
abbrev pub is_partly : Kept → Bool
is_partly mine = option_map_or (λ head. is_msg head.kind && head.more) mine.before false

-- the requests among these that have not begun
abbrev pub new_asks : List Message → Kept → ℕ
new_asks queue mine = asks queue - as_number (is_partly mine)

-- the tag of a message at these positions
abbrev pub tag_at : ℕ → ℕ → Message → Tag
tag_at own reply m =
    record m.tag { request = if is_msg m.tag.kind then own else reply }

-- each message has its tag modulo 2^64, from the position of the next own request and that of the
-- next reply on
abbrev pub IsTagged : ℕ → ℕ → List Message → Type 0
IsTagged own reply [] = Unit {0}
IsTagged own reply (m ∷ ms) =
    (m.tag ≡ modulo_2_64 (tag_at own reply m))
    × IsTagged (if is_msg m.tag.kind then own + 1 else own)
    (if ends_reply m.tag.kind then reply + 1 else reply) ms

-- ---- the sums

-- of this direction `own_count` requests have begun, and of the other `their_count`
pub record Sums (given : Given) (queue : List Message) (runs : List Run) (mine theirs : Kept)
    (own_count their_count : ℕ) : Type 0 where
  pub taken_replies : ℕ
  pub given_replies : ℕ
  pub first_asked : given.first_asked ≡ count_modulo_2_64 taken_replies
  pub first_owed : given.first_owed ≡ count_modulo_2_64 given_replies
  pub asked : taken_replies + given.asked ≡ own_count + new_asks queue mine
  pub partly : as_number (is_partly mine) ≤ asks queue
  pub replied : taken_replies + ended_of ends_reply runs + mine.waiting ≡ own_count
  pub owed : given_replies + given.owed + ended_of is_msg runs + as_number (is_open theirs)
      ≡ their_count
  pub replies : given_replies + theirs.waiting ≡ their_count + replies queue
  pub placed : IsPlaced taken_replies (given_replies + given.owed) runs
  pub marked : AllMarked runs
  pub answerable : IsAnswerable mine.waiting runs

-- the tag of the frame that arrives, by these sums
abbrev pub arriving_tag : Given → List Run → Head → Tag
arriving_tag given runs head = record {
  kind = head.kind;
  request = if is_msg head.kind then count_modulo_2_64
      (given.first_owed + given.owed + ended_of is_msg runs)
      else count_modulo_2_64 (given.first_asked + ended_of ends_reply runs);
  ansno = head.ansno;
}

abbrev pub arriving_run : Given → List Run → Head → List ℕ → Run
arriving_run given runs head payload =
    record { tag = arriving_tag given runs head; octets = payload; ended = not head.more }
