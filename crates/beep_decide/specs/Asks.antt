-- The requests of channel zero by what they say: which of them wait for their reply, and which of
-- them speak of one channel (RFC 3080, sections 2.3.1.2 and 2.3.1.3).
-- The code keeps what its own requests ask for; here each word looks back over channel zero.
-- The requests stand as a list of what they say, the latest first, so that each is named by how
-- many stand before it.
use Rattle.std.specs.Prelude.{ℕ, ◌==◌, Bool, true, false, not, ◌&&◌, ◌||◌, List, [], ◌∷◌, length, Option, None, Some}
use Rattle.beep_history.specs.declared.journal.Side.{Side}
use Rattle.beep_history.specs.Journal.{Item}
use Rattle.beep_history.specs.Marks.{is_answered}
use Rattle.beep_mgmt.specs.Form.{Form, greeting, start, chosen, close, okay, fault}
use Rattle.beep_journal.specs.Lives.{Event, life_named}
use Rattle.beep_journal.specs.Zero.{zero_history, asked, events}

-- ---- what a request says

-- a start of some channel
abbrev pub is_start : Option Form → Bool
is_start (Some (start of server profiles)) = true
is_start (Some (greeting features localize profiles)) = false
is_start (Some (chosen profile)) = false
is_start (Some (close of code note)) = false
is_start (Some okay) = false
is_start (Some (fault code note)) = false
is_start None = false

-- a start of this channel
abbrev pub is_start_of : ℕ → Option Form → Bool
is_start_of number (Some (start of server profiles)) = of == number
is_start_of number (Some (greeting features localize profiles)) = false
is_start_of number (Some (chosen profile)) = false
is_start_of number (Some (close of code note)) = false
is_start_of number (Some okay) = false
is_start_of number (Some (fault code note)) = false
is_start_of number None = false

-- a close of this channel
abbrev pub is_close_of : ℕ → Option Form → Bool
is_close_of number (Some (close of code note)) = of == number
is_close_of number (Some (greeting features localize profiles)) = false
is_close_of number (Some (start of server profiles)) = false
is_close_of number (Some (chosen profile)) = false
is_close_of number (Some okay) = false
is_close_of number (Some (fault code note)) = false
is_close_of number None = false

-- ---- which requests wait

-- among these requests of a side, one that says such a thing isn't answered
abbrev pub has_waiting : (Option Form → Bool) → Side → List Item → List (Option Form) → Bool
has_waiting says side zero [] = false
has_waiting says side zero (form ∷ forms) =
    (says form && not (is_answered side (length forms) zero)) || has_waiting says side zero forms

-- an own request that says such a thing waits for its reply
abbrev pub has_own : (Option Form → Bool) → List Item → Bool
has_own says zero = has_waiting says Side.Sent zero (asked Side.Sent zero)

-- an own start of this channel waits
abbrev pub has_own_start : ℕ → List Item → Bool
has_own_start number journal = has_own (is_start_of number) (zero_history journal)

-- an own close of 0 waits
abbrev pub has_own_release : List Item → Bool
has_own_release journal = has_own (is_close_of 0) (zero_history journal)

-- among these own requests, a close that waits names this life of a channel, by these moments
abbrev pub has_close_among : ℕ → ℕ → List Event → List Item → List (Option Form) → Bool
has_close_among number count events zero [] = false
has_close_among number count events zero (form ∷ forms) =
    (is_close_of number form && not (is_answered Side.Sent (length forms) zero)
    && life_named number Side.Sent (length forms) events == count)
    || has_close_among number count events zero forms

-- an own close of this life of a channel waits; the life of 0 is channel zero's, and has the count
-- 0
abbrev pub has_own_close : ℕ → ℕ → List Item → Bool
has_own_close number count journal =
    has_close_among number count (events journal) (zero_history journal)
    (asked Side.Sent (zero_history journal))

-- the own greeting has wholly passed: it answers the peer's implied request
abbrev pub is_greeted : List Item → Bool
is_greeted journal = is_answered Side.Received 0 (zero_history journal)
