-- When a life may end: whether a close may go out, and whether its `ok` may (RFC 3080, section
-- 2.3.1.3).
-- The code keeps which answers wait and for what; here each word looks back over every moment since
-- the close.
use Rattle.std.specs.Prelude.{ℕ, ◌==◌, nat_lt, Bool, true, false, not, ◌&&◌, ◌||◌, if◌then◌else◌, List, [], ◌∷◌, length, Option}
use Rattle.std.specs.List.{list_any}
use Rattle.beep_frame.specs.declared.head.Head.{Head}
use Rattle.beep_history.specs.declared.journal.Side.{Side}
use Rattle.beep_history.specs.Journal.{Item, began, passed, told}
use Rattle.beep_history.specs.Marks.{begins_request, requests, waiting}
use Rattle.beep_mgmt.specs.Form.{Form}
use Rattle.beep_journal.specs.Lives.{Event, close_came, start_granted, close_granted, is_live, has_ended}
use Rattle.beep_journal.specs.Zero.{zero_history, asked, said_at, events}
use Rattle.beep_journal.specs.Life.{is_of_life, life, history}
use Rattle.beep_decide.specs.Asks.{is_close_of}

-- ---- an own close

-- no own request before this position waits, of these
abbrev pub none_waits_before : ℕ → List Item → Bool
none_waits_before position past =
    not (list_any (λ request. nat_lt request.position position) (waiting Side.Sent past))

-- the life has no own request without its reply; channel zero none but the one at this position,
-- which is the close itself
abbrev pub is_idle : ℕ → ℕ → ℕ → List Item → Bool
is_idle position number count journal =
    if number == 0
    then none_waits_before position (zero_history journal)
    else length (waiting Side.Sent (life number count journal)) == 0

-- the own request of channel zero at this position has begun
abbrev pub has_begun : ℕ → List Item → Bool
has_begun position journal =
    nat_lt position (length (requests Side.Sent (zero_history journal)))

-- at each moment since that request began, the life was idle; the moment before its header is one
-- of them
abbrev pub was_idle_since : ℕ → ℕ → ℕ → List Item → Bool
was_idle_since position number count [] = true
was_idle_since position number count (item ∷ journal) =
    is_idle position number count (item ∷ journal)
    && (if has_begun position (item ∷ journal) then was_idle_since position number count journal
    else true)

-- ---- the `ok` to the peer's close

-- the life is drained, as its history shows it: no request of either side waits for its reply. A
-- message that isn't complete is part of a request that waits, or of the reply to one
abbrev pub is_drained : List Item → Bool
is_drained past =
    length (waiting Side.Received past) == 0 && length (waiting Side.Sent past) == 0

-- each channel whose start is among these moments and that is live is drained
abbrev pub are_drained : List Event → List Item → Bool
are_drained [] journal = true
are_drained (close_came side position of ∷ events) journal = are_drained events journal
are_drained (start_granted of ∷ moments) journal =
    (not (is_live of (events journal)) || is_drained (history of journal))
    && are_drained moments journal
are_drained (close_granted side position of ∷ events) journal = are_drained events journal

-- an own request of channel zero that has begun waits, and is no close of 0, by what these requests
-- say
abbrev pub has_other_asking : List (Option Form) → List Item → Bool
has_other_asking forms zero =
    list_any (λ request. not (is_close_of 0 (said_at request.position forms)))
    (waiting Side.Sent zero)

-- what the `ok` waits for: of a life, that it has ended or is drained, where a close that named no
-- life names one that has ended; of 0, that each live channel is drained and no own request of
-- channel zero waits but closes of 0
abbrev pub is_ready : ℕ → ℕ → List (Option Form) → List Item → Bool
is_ready number count forms journal =
    if number == 0
    then are_drained (events journal) journal && not (has_other_asking forms (zero_history journal))
    else count == 0 || has_ended number count (events journal)
    || is_drained (life number count journal)

-- a header begins an own request of the life: at 0 of any channel, but for a close of 0 among the
-- requests that say these things
abbrev pub begins_asking : ℕ → ℕ → List (Option Form) → Head → List Item → Bool
begins_asking number count forms head journal =
    begins_request Side.Sent (history head.channel journal) head
    && (if number == 0
    then not (head.channel == 0 && is_close_of 0
    (said_at (length (requests Side.Sent (zero_history journal))) forms))
    else is_of_life number count (began Side.Sent head) journal)

-- an item does
abbrev pub asks_again : ℕ → ℕ → List (Option Form) → Item → List Item → Bool
asks_again number count forms (began Side.Received head) journal = false
asks_again number count forms (began Side.Sent head) journal =
    begins_asking number count forms head journal
asks_again number count forms (passed by head payload) journal = false
asks_again number count forms (told by seq) journal = false

-- the peer's request of channel zero at this position has come whole
abbrev pub has_come : ℕ → List Item → Bool
has_come position journal = nat_lt position (length (asked Side.Received (zero_history journal)))

-- at some moment since the peer's close at this position came, the `ok` had nothing to wait for, by
-- what the own requests say
abbrev pub was_ready_since : ℕ → ℕ → ℕ → List (Option Form) → List Item → Bool
was_ready_since position number count forms [] = false
was_ready_since position number count forms (item ∷ journal) =
    has_come position (item ∷ journal)
    && (is_ready number count forms (item ∷ journal)
    || was_ready_since position number count forms journal)

-- the same, and since that moment no own request of the life has begun
abbrev pub was_quiet_since : ℕ → ℕ → ℕ → List (Option Form) → List Item → Bool
was_quiet_since position number count forms [] = false
was_quiet_since position number count forms (item ∷ journal) =
    has_come position (item ∷ journal)
    && (is_ready number count forms (item ∷ journal)
    || (not (asks_again number count forms item journal)
    && was_quiet_since position number count forms journal))
