-- The first rule that a header, a SEQ or a message's content breaks, over the whole journal of a
-- session (RFC 3080, sections 2.2.1 and 2.3; RFC 3081, section 3.1).
-- The code keeps what each live life and channel zero need; here each rule is a test over all that
-- came before.
-- A rule takes the side on which the frame goes, so that what an end sends is judged as its peer
-- judges it.
use Rattle.std.specs.Prelude.{ℕ, ◌==◌, nat_lt, Bool, false, not, ◌&&◌, ◌||◌, if◌then◌else◌, List, [], ◌∷◌, filter, Option, None, Some, is_some}
use Rattle.std.specs.List.{list_any}
use Rattle.beep_frame.specs.declared.head.Head.{Head}
use Rattle.beep_frame.specs.declared.kind.Kind.{Kind}
use Rattle.beep_frame.specs.declared.limits.TheConstants.{MAX_PAYLOAD}
use Rattle.beep_frame.specs.declared.rule.Rule.{Rule}
use Rattle.beep_frame.specs.declared.seq.Seq.{Seq}
use Rattle.beep_frame.specs.Frame.{is_ans, is_nul, is_reply, same_kind}
use Rattle.beep_history.specs.declared.journal.Side.{Side}
use Rattle.beep_history.specs.Journal.{Item}
use Rattle.beep_history.specs.Marks.{previous, requests, is_answered, is_whole}
use Rattle.beep_history.specs.Broken.{first_of, broken_rule}
use Rattle.beep_history.specs.Windows.{is_bad_ack}
use Rattle.beep_journal.specs.Zero.{zero_history, completes_form}
use Rattle.beep_journal.specs.Life.{history, is_there}

-- which starts are tuning, by their side and position: what a session knows beside its journal
abbrev pub Tuning : Type 0
Tuning = Side → ℕ → Bool

-- no start is tuning
abbrev pub none_tunes : Tuning
none_tunes side position = false

-- ---- rules on a header, over the whole session

-- Size: the payload is larger than an end takes.
-- Choice: the standard has no such bound (docs/DECISIONS.md, "Limit of a payload")
abbrev pub breaks_size : Head → Bool
breaks_size head = nat_lt MAX_PAYLOAD head.size

-- the reply to the implied request: RPY or ERR, of number 0, on channel 0 (RFC 3080, section
-- 2.3.1.1)
abbrev pub is_greeting : Head → Bool
is_greeting head =
    (same_kind Kind.Rpy head.kind || same_kind Kind.Err head.kind) && head.channel == 0
    && head.msgno == 0

-- NoGreeting: it is the first frame of its side, and no greeting (RFC 3080, section 2.3.1.1)
abbrev pub breaks_no_greeting : Side → List Item → Head → Bool
breaks_no_greeting side journal head =
    not (is_some (previous side journal)) && not (is_greeting head)

-- NoSuchChannel: the channel is neither 0 nor live (RFC 3080, section 2.2.1.1)
abbrev pub breaks_no_such_channel : List Item → Head → Bool
breaks_no_such_channel journal head = not (is_there head.channel journal)

-- among the requests that began in a part of a history, and aren't answered in the whole, a tuning
-- start has wholly passed
abbrev pub waits_to_tune : Tuning → Side → List Item → List Item → Bool
waits_to_tune tunes side past part =
    list_any (λ request. tunes side request.position && is_whole side request.position past)
    (filter (λ request. not (is_answered side request.position past)) (requests side part))

-- NotAlone: a tuning start of this side has wholly passed, and its reply has not (RFC 3080, section
-- 2.3.1.2)
abbrev pub breaks_not_alone : Tuning → Side → List Item → Bool
breaks_not_alone tunes side journal =
    waits_to_tune tunes side (zero_history journal) (zero_history journal)

-- these rules, in the order in which they are answered
abbrev pub session_rules : Tuning → Side → List Item → Head → List (Rule × Bool)
session_rules tunes side journal head =
    (Rule.Size, breaks_size head)
    ∷ (Rule.NoGreeting, breaks_no_greeting side journal head)
    ∷ (Rule.NoSuchChannel, breaks_no_such_channel journal head)
    ∷ (Rule.NotAlone, breaks_not_alone tunes side journal)
    ∷ []

-- ZeroReply on a header: a reply of channel 0 is one message (RFC 3080, section 2.3.1)
abbrev pub breaks_zero_reply : Head → Bool
breaks_zero_reply head = head.channel == 0 && (is_ans head.kind || is_nul head.kind)

-- ---- the first broken rule

-- the second answer where there is no first one
abbrev pub or_else : Option Rule → Option Rule → Option Rule
or_else None second = second
or_else (Some rule) second = Some rule

-- the first rule that a header of this side breaks: of the session, then of its channel's life,
-- then on replies of channel 0
unfoldable pub broken_head : Tuning → Side → List Item → Head → Option Rule
broken_head tunes side journal head =
    or_else (first_of (session_rules tunes side journal head))
    (or_else (broken_rule side (history head.channel journal) head)
    (first_of ((Rule.ZeroReply, breaks_zero_reply head) ∷ [])))

-- ---- a SEQ

-- BadAck: the SEQ of a channel that is there acknowledges less than an earlier one, or octets that
-- have not passed (RFC 3081, section 3.1)
unfoldable pub broken_seq : Side → List Item → Seq → Option Rule
broken_seq side journal seq =
    if is_there seq.channel journal && is_bad_ack side (history seq.channel journal) seq
    then Some Rule.BadAck
    else None

-- ---- content

-- ZeroReply on content: a whole reply of channel 0 has not the form that its request asks for (RFC
-- 3080, section 2.3.1)
unfoldable pub broken_content : Side → List Item → Head → List ℕ → Option Rule
broken_content side journal head payload =
    if head.channel == 0 && is_reply head.kind && not head.more
    && not (completes_form side head payload (zero_history journal))
    then Some Rule.ZeroReply
    else None
