-- What an end may send, item by item, over all that came before (RFC 3080, sections 2.1 to 2.3; RFC
-- 3081, section 3.1).
-- The code decides what to send; this only looks back.
-- Each item of the journal that was sent is tried as a header, a whole frame or a SEQ. What it
-- breaks is the first of a list of tests, which are named for what is wrong.
use Rattle.std.specs.Prelude.{◌≡◌, ℕ, ◌+◌, ◌-◌, ◌%◌, ◌==◌, nat_lt, nat_le, IsTrue, Bool, true, false, not, ◌&&◌, ◌||◌, if◌then◌else◌, List, [], ◌∷◌, ◌++◌, length, Option, None, Some, is_some}
use Rattle.std.specs.Option.{is_none}
use Rattle.beep_frame.specs.declared.head.Head.{Head}
use Rattle.beep_frame.specs.declared.kind.Kind.{Kind}
use Rattle.beep_frame.specs.declared.seq.Seq.{Seq}
use Rattle.beep_frame.specs.Frame.{is_msg, same_kind}
use Rattle.beep_seq.specs.Wire.{wire_number}
use Rattle.beep_seq.specs.Due.{is_seq_due}
use Rattle.beep_history.specs.declared.journal.Side.{Side}
use Rattle.beep_history.specs.Journal.{Item, began, passed, told}
use Rattle.beep_history.specs.Marks.{begins_request, requests, passed_octets, position_of}
use Rattle.beep_history.specs.Broken.{under_way}
use Rattle.beep_history.specs.Windows.{open_now, greatest_edge}
use Rattle.beep_mgmt.specs.Form.{Form, greeting, start, chosen, close, okay, fault}
use Rattle.beep_mgmt.specs.Message.{message_said}
use Rattle.beep_journal.specs.declared.role.Role.{Role}
use Rattle.beep_journal.specs.Lives.{is_live, lives, life_named}
use Rattle.beep_journal.specs.Zero.{zero_history, gathered, asked, said_to, events}
use Rattle.beep_journal.specs.Life.{life_now, history, is_there, is_released}
use Rattle.beep_journal.specs.Broken.{Tuning, broken_head, broken_seq, broken_content}
use Rattle.beep_journal.specs.Log.{Moment, got, put, none, over}
use Rattle.beep_journal.specs.Journal.{Past, Fault, Shows, goes_on}
use Rattle.beep_lawful.specs.declared.breach.Breach.{Breach}
use Rattle.beep_lawful.specs.declared.limits.TheConstants.{MESSAGE_NUMBERS}
use Rattle.beep_lawful.specs.declared.terms.Terms.{Terms}
use Rattle.beep_decide.specs.Asks.{has_own_start, has_own_release, has_own_close, is_greeted}
use Rattle.beep_decide.specs.Numbers.{other_role, may_start}
use Rattle.beep_lawful.specs.Tuned.{has_tuned, is_tuning, tunes_next}
use Rattle.beep_lawful.specs.Closing.{was_idle_since, was_ready_since, was_quiet_since}

-- ---- any item

-- AfterEnd: the session was released, or the link carries something else since a tuning start was
-- granted (RFC 3080, sections 2.3.1.2 and 2.3.1.3)
abbrev pub breaks_after_end : Tuning → List Item → Bool
breaks_after_end tunes journal = is_released journal || has_tuned tunes (zero_history journal)

-- Apart: a frame of this end is under way (RFC 3080, section 2.2.1)
abbrev pub is_apart : List Item → Bool
is_apart journal = is_some (under_way Side.Sent journal)

-- ---- a header

-- Rule: the peer would find a broken rule
abbrev pub breaks_rule : Tuning → List Item → Head → Bool
breaks_rule tunes journal head = is_some (broken_head tunes Side.Sent journal head)

-- Room: the payload is larger than this end's piece, or than the octets that the peer left open
-- (RFC 3081, section 3.1)
abbrev pub breaks_room : Terms → List Item → Head → Bool
breaks_room terms journal head =
    nat_lt terms.piece head.size
    || nat_lt (open_now Side.Sent (history head.channel journal)) head.size

-- it begins an own request
abbrev pub begins_own : List Item → Head → Bool
begins_own journal head = begins_request Side.Sent (history head.channel journal) head

-- OwnNumber: an own request has another number than its position, modulo how many there are.
-- Choice: the standard leaves the numbers to the end (docs/DECISIONS.md, "Own message numbers")
abbrev pub breaks_own_number : List Item → Head → Bool
breaks_own_number journal head =
    begins_own journal head
    && not (head.msgno
    == length (requests Side.Sent (history head.channel journal)) % MESSAGE_NUMBERS)

-- AskedClosing: an own request begins in a life whose own close waits (RFC 3080, section 2.3.1.3)
abbrev pub breaks_asked_closing : List Item → Head → Bool
breaks_asked_closing journal head =
    begins_own journal head && has_own_close head.channel (life_now head.channel journal) journal

-- the SEQ that was sent last is one of channel zero with a window of this size, and nothing was
-- sent since
abbrev pub follows_full_seq : ℕ → List Item → Bool
follows_full_seq window [] = false
follows_full_seq window (began Side.Received head ∷ journal) = follows_full_seq window journal
follows_full_seq window (began Side.Sent head ∷ journal) = false
follows_full_seq window (passed Side.Received head payload ∷ journal) =
    follows_full_seq window journal
follows_full_seq window (passed Side.Sent head payload ∷ journal) = false
follows_full_seq window (told Side.Received seq ∷ journal) = follows_full_seq window journal
follows_full_seq window (told Side.Sent seq ∷ journal) =
    seq.channel == 0 && seq.window == window

-- it begins an own tuning start
abbrev pub begins_tuning : Tuning → List Item → Head → Bool
begins_tuning tunes journal head =
    head.channel == 0 && begins_own journal head && tunes_next tunes journal

-- it goes on with a request of channel zero
abbrev pub goes_on_zero : List Item → Head → Bool
goes_on_zero journal head =
    head.channel == 0 && is_msg head.kind && not (begins_own journal head)

-- BesideTuning: between the full SEQ before an own tuning start and its reply something else goes
-- out than its frames (RFC 3080, section 2.3.1.2)
abbrev pub breaks_beside_tuning : Terms → Tuning → List Item → Head → Bool
breaks_beside_tuning terms tunes journal head =
    if is_tuning tunes journal then not (goes_on_zero journal head)
    else begins_tuning tunes journal head && not (follows_full_seq terms.window journal)

-- ---- a whole frame

-- two flags are one
abbrev pub same_flag : Bool → Bool → Bool
same_flag true other = other
same_flag false other = not other

-- two headers are one
abbrev pub same_head : Head → Head → Bool
same_head a b =
    same_kind a.kind b.kind && a.channel == b.channel && a.msgno == b.msgno
    && same_flag a.more b.more && a.seqno == b.seqno && a.size == b.size && a.ansno == b.ansno

-- Apart: something happened between the header of a frame and its end, or its payload has another
-- size (RFC 3080, section 2.2.1)
abbrev pub breaks_apart : List Item → Head → List ℕ → Bool
breaks_apart [] head payload = true
breaks_apart (began Side.Received begun ∷ journal) head payload = true
breaks_apart (began Side.Sent begun ∷ journal) head payload =
    not (same_head begun head && length payload == head.size)
breaks_apart (passed by begun octets ∷ journal) head payload = true
breaks_apart (told by seq ∷ journal) head payload = true

-- Rule: the peer would find that a reply of channel zero has not its form
abbrev pub breaks_content : List Item → Head → List ℕ → Bool
breaks_content journal head payload = is_some (broken_content Side.Sent journal head payload)

-- what the request says that a frame of channel zero completes; nothing where it completes none
abbrev pub request_said : List Item → Head → List ℕ → Option Form
request_said journal head payload =
    if head.channel == 0 && is_msg head.kind && not head.more
    then message_said (gathered Side.Sent (zero_history journal) ++ payload)
    else None

-- what the request says that a frame of channel zero answers positively; nothing where it completes
-- no such reply
abbrev pub granted_said : List Item → Head → Option Form
granted_said journal head =
    if head.channel == 0 && same_kind Kind.Rpy head.kind && not head.more
    then said_to Side.Sent head (zero_history journal)
    else None

-- the position of the request that a frame of channel zero answers
abbrev pub granted_position : List Item → Head → ℕ
granted_position journal head = position_of Side.Sent (zero_history journal) head

-- OkTooSoon: `ok` to the peer's close, and at no moment since it came had its life ended or was it
-- drained (RFC 3080, section 2.3.1.3)
abbrev pub breaks_ok_too_soon : List Item → ℕ → Option Form → Bool
breaks_ok_too_soon journal position (Some (close number code note)) =
    not (was_ready_since position number (life_named number Side.Received position (events journal))
    (asked Side.Sent (zero_history journal)) journal)
breaks_ok_too_soon journal position (Some (greeting features localize profiles)) = false
breaks_ok_too_soon journal position (Some (start number server profiles)) = false
breaks_ok_too_soon journal position (Some (chosen profile)) = false
breaks_ok_too_soon journal position (Some okay) = false
breaks_ok_too_soon journal position (Some (fault code note)) = false
breaks_ok_too_soon journal position None = false

-- CloseUnanswered: an own close of a life whose own requests were not all answered at each moment
-- since its header (RFC 3080, section 2.3.1.3)
abbrev pub breaks_close_unanswered : List Item → Option Form → Bool
breaks_close_unanswered journal (Some (close number code note)) =
    not (was_idle_since (length (asked Side.Sent (zero_history journal))) number
    (lives number (events journal)) journal)
breaks_close_unanswered journal (Some (greeting features localize profiles)) = false
breaks_close_unanswered journal (Some (start number server profiles)) = false
breaks_close_unanswered journal (Some (chosen profile)) = false
breaks_close_unanswered journal (Some okay) = false
breaks_close_unanswered journal (Some (fault code note)) = false
breaks_close_unanswered journal None = false

-- StartNumber: an own start of a number that this end may not start, that is live, or whose own
-- start waits (RFC 3080, section 2.3.1.2)
abbrev pub breaks_start_number : Role → List Item → Option Form → Bool
breaks_start_number role journal (Some (start number server profiles)) =
    not (may_start role number) || is_live number (events journal) || has_own_start number journal
breaks_start_number role journal (Some (greeting features localize profiles)) = false
breaks_start_number role journal (Some (chosen profile)) = false
breaks_start_number role journal (Some (close number code note)) = false
breaks_start_number role journal (Some okay) = false
breaks_start_number role journal (Some (fault code note)) = false
breaks_start_number role journal None = false

-- GrantNumber: the positive reply to a start of a number that the peer may not start, or that is
-- live, or while an own close of 0 waits (RFC 3080, sections 2.3.1.2 and 2.3.1.3)
abbrev pub breaks_grant_number : Role → List Item → Option Form → Bool
breaks_grant_number role journal (Some (start number server profiles)) =
    not (may_start (other_role role) number) || is_live number (events journal)
    || has_own_release journal
breaks_grant_number role journal (Some (greeting features localize profiles)) = false
breaks_grant_number role journal (Some (chosen profile)) = false
breaks_grant_number role journal (Some (close number code note)) = false
breaks_grant_number role journal (Some okay) = false
breaks_grant_number role journal (Some (fault code note)) = false
breaks_grant_number role journal None = false

-- CloseStarting: an own close of a number above 0 whose own start waits (RFC 3080, section 2.3.1.3)
abbrev pub breaks_close_starting : List Item → Option Form → Bool
breaks_close_starting journal (Some (close number code note)) =
    nat_lt 0 number && has_own_start number journal
breaks_close_starting journal (Some (greeting features localize profiles)) = false
breaks_close_starting journal (Some (start number server profiles)) = false
breaks_close_starting journal (Some (chosen profile)) = false
breaks_close_starting journal (Some okay) = false
breaks_close_starting journal (Some (fault code note)) = false
breaks_close_starting journal None = false

-- AskedDrained: `ok` to the peer's close, and since each moment at which its life had ended or was
-- drained an own request of it has begun (RFC 3080, section 2.3.1.3)
abbrev pub breaks_asked_drained : List Item → ℕ → Option Form → Bool
breaks_asked_drained journal position (Some (close number code note)) =
    not (was_quiet_since position number (life_named number Side.Received position (events journal))
    (asked Side.Sent (zero_history journal)) journal)
breaks_asked_drained journal position (Some (greeting features localize profiles)) = false
breaks_asked_drained journal position (Some (start number server profiles)) = false
breaks_asked_drained journal position (Some (chosen profile)) = false
breaks_asked_drained journal position (Some okay) = false
breaks_asked_drained journal position (Some (fault code note)) = false
breaks_asked_drained journal position None = false

-- ---- a SEQ

-- Rule: the peer would find a bad acknowledgement
abbrev pub breaks_seq_rule : List Item → Seq → Bool
breaks_seq_rule journal seq = is_some (broken_seq Side.Sent journal seq)

-- the octet count up to which it lets the peer send
abbrev pub seq_edge : List Item → Seq → ℕ
seq_edge past seq = passed_octets Side.Received past + seq.window

-- it may go out: a SEQ is due, where its window less than a full one stands for octets that weren't
-- taken, or it is the full one before an own tuning start
abbrev pub is_called_for : Terms → Tuning → List Item → List Item → Seq → Bool
is_called_for terms tunes journal past seq =
    (is_greeted journal
    && is_seq_due terms.window (seq_edge past seq - terms.window)
    (greatest_edge Side.Received past))
    || (seq.channel == 0 && seq.window == terms.window && tunes_next tunes journal)

-- it says what arrived, a window for what was taken and no more, an edge that isn't left of an
-- earlier one, and it is called for
abbrev pub is_right_seq : Terms → Tuning → List Item → List Item → Seq → Bool
is_right_seq terms tunes journal past seq =
    seq.ackno == wire_number (passed_octets Side.Received past)
    && nat_le terms.window (seq_edge past seq)
    && nat_le seq.window terms.window
    && nat_le (greatest_edge Side.Received past) (seq_edge past seq)
    && is_called_for terms tunes journal past seq

-- SeqNotDue: the SEQ of a channel that is there is no such one (RFC 3081, section 3.1)
abbrev pub breaks_seq_not_due : Terms → Tuning → List Item → Seq → Bool
breaks_seq_not_due terms tunes journal seq =
    is_there seq.channel journal
    && not (is_right_seq terms tunes journal (history seq.channel journal) seq)

-- SeqOfNoLife: the channel is neither 0 nor live (RFC 3081, section 3.1)
abbrev pub breaks_seq_of_no_life : List Item → Seq → Bool
breaks_seq_of_no_life journal seq = not (is_there seq.channel journal)

-- ---- the first that is broken

-- the first test that holds
abbrev pub first_breach : List (Breach × Bool) → Option Breach
first_breach [] = None
first_breach ((breach, holds) ∷ others) = if holds then Some breach else first_breach others

-- what a header that goes out breaks
unfoldable pub unlawful_head : Terms → Tuning → List Item → Head → Option Breach
unlawful_head terms tunes journal head =
    first_breach ((Breach.Apart, is_apart journal)
    ∷ (Breach.Rule, breaks_rule tunes journal head)
    ∷ (Breach.Room, breaks_room terms journal head)
    ∷ (Breach.OwnNumber, breaks_own_number journal head)
    ∷ (Breach.AskedClosing, breaks_asked_closing journal head)
    ∷ (Breach.BesideTuning, breaks_beside_tuning terms tunes journal head)
    ∷ (Breach.AfterEnd, breaks_after_end tunes journal)
    ∷ [])

-- the tests on a frame that goes out whole, where the request that it completes says one thing, and
-- the request at a position, that it grants, says another
abbrev pub content_tests : Terms → Tuning → List Item → Option Form → ℕ → Option Form
    → List (Breach × Bool)
content_tests terms tunes journal asks position grants =
    (Breach.OkTooSoon, breaks_ok_too_soon journal position grants)
    ∷ (Breach.CloseUnanswered, breaks_close_unanswered journal asks)
    ∷ (Breach.AfterEnd, breaks_after_end tunes journal)
    ∷ (Breach.StartNumber, breaks_start_number terms.role journal asks)
    ∷ (Breach.GrantNumber, breaks_grant_number terms.role journal grants)
    ∷ (Breach.CloseStarting, breaks_close_starting journal asks)
    ∷ (Breach.AskedDrained, breaks_asked_drained journal position grants)
    ∷ []

-- what a frame breaks that goes out whole
unfoldable pub unlawful_frame : Terms → Tuning → List Item → Head → List ℕ → Option Breach
unlawful_frame terms tunes journal head payload =
    first_breach ((Breach.Apart, breaks_apart journal head payload)
    ∷ (Breach.Rule, breaks_content journal head payload)
    ∷ content_tests terms tunes journal (request_said journal head payload)
    (granted_position journal head) (granted_said journal head))

-- what a SEQ that goes out breaks
unfoldable pub unlawful_seq : Terms → Tuning → List Item → Seq → Option Breach
unlawful_seq terms tunes journal seq =
    first_breach ((Breach.Apart, is_apart journal)
    ∷ (Breach.Rule, breaks_seq_rule journal seq)
    ∷ (Breach.SeqNotDue, breaks_seq_not_due terms tunes journal seq)
    ∷ (Breach.BesideTuning, is_tuning tunes journal)
    ∷ (Breach.AfterEnd, breaks_after_end tunes journal)
    ∷ (Breach.SeqOfNoLife, breaks_seq_of_no_life journal seq)
    ∷ [])

-- what an item breaks that comes next: one that was received breaks nothing
abbrev pub unlawful_item : Terms → Tuning → List Item → Item → Option Breach
unlawful_item terms tunes journal (began Side.Received head) = None
unlawful_item terms tunes journal (began Side.Sent head) = unlawful_head terms tunes journal head
unlawful_item terms tunes journal (passed Side.Received head payload) = None
unlawful_item terms tunes journal (passed Side.Sent head payload) =
    unlawful_frame terms tunes journal head payload
unlawful_item terms tunes journal (told Side.Received seq) = None
unlawful_item terms tunes journal (told Side.Sent seq) = unlawful_seq terms tunes journal seq

-- ---- the whole journal

-- each item breaks nothing, over those before it
abbrev pub is_lawful : Terms → Tuning → List Item → Bool
is_lawful terms tunes [] = true
is_lawful terms tunes (item ∷ journal) =
    is_none (unlawful_item terms tunes journal item) && is_lawful terms tunes journal

-- the journal of a lawful end
abbrev pub IsLawful : Terms → Tuning → List Item → Type 0
IsLawful terms tunes journal = IsTrue (is_lawful terms tunes journal)

-- ---- the whole log

-- what a moment of the log may be, where the session shows itself so before it: an octet is written
-- only where the session goes on, with no broken rule and no end, and anything else happens only
-- where no written frame is under way
abbrev pub IsLawfulMoment : Tuning → Past → Moment → Type 0
IsLawfulMoment tunes past (got octet) = past.rest Side.Sent ≡ []
IsLawfulMoment tunes past (put octet) =
    IsTrue (goes_on past && not (breaks_after_end tunes past.journal))
IsLawfulMoment tunes past none = past.rest Side.Sent ≡ []
IsLawfulMoment tunes past over = past.rest Side.Sent ≡ []

-- the flat log of a lawful end: at each moment what was written was lawful. A header or SEQ that
-- breaks a rule is no item, so that a fault, if there is one, has to be the peer's
pub record IsLawfulLog (terms : Terms) (tunes : Tuning) (log : List Moment) : Type 0 where
  pub moments : (later earlier : List Moment) (moment : Moment) (past : Past)
      → log ≡ later ++ moment ∷ earlier → Shows tunes earlier past
      → IsLawfulMoment tunes past moment
  pub items : (past : Past) → Shows tunes log past → IsLawful terms tunes past.journal
  pub faultless : (past : Past) (fault : Fault) → Shows tunes log past → past.fault ≡ Some fault
      → fault.side ≡ Side.Received
