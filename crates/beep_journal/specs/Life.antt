-- The history of each life of a channel, as a filter of the journal of a session (RFC 3080, section
-- 2.3.1).
-- The code keeps live channels by their number; here a life is named by its number and its count,
-- from 1.
use Rattle.std.specs.Prelude.{ℕ, ◌==◌, Bool, ◌&&◌, ◌||◌, if◌then◌else◌, List, [], ◌∷◌}
use Rattle.beep_history.specs.declared.journal.Side.{Side}
use Rattle.beep_history.specs.Journal.{Item, began, passed, told, same_side}
use Rattle.beep_journal.specs.Lives.{is_live, live_life, has_release}
use Rattle.beep_journal.specs.Zero.{zero_history, events}

-- the count of the life of a number that is live, 0 where none is
abbrev pub life_now : ℕ → List Item → ℕ
life_now number journal = live_life number (events journal)

-- the count of the life of a number in which the last header of a side came, 0 where it isn't of
-- that number
abbrev pub life_under_way : ℕ → Side → List Item → ℕ
life_under_way number side [] = 0
life_under_way number side (began by head ∷ journal) =
    if same_side by side
    then (if head.channel == number then life_now number journal else 0)
    else life_under_way number side journal
life_under_way number side (passed by head payload ∷ journal) = life_under_way number side journal
life_under_way number side (told by seq ∷ journal) = life_under_way number side journal

-- a header and a SEQ belong to the life that is live as they come, a frame to the one in which its
-- header came
abbrev pub is_of_life : ℕ → ℕ → Item → List Item → Bool
is_of_life number count (began by head) journal =
    head.channel == number && life_now number journal == count
is_of_life number count (passed by head payload) journal =
    head.channel == number && life_under_way number by journal == count
is_of_life number count (told by seq) journal =
    seq.channel == number && life_now number journal == count

-- the history of a life
abbrev pub life : ℕ → ℕ → List Item → List Item
life number count [] = []
life number count (item ∷ journal) =
    if is_of_life number count item journal then item ∷ life number count journal
    else life number count journal

-- the number is 0, or has a live life
abbrev pub is_there : ℕ → List Item → Bool
is_there number journal = number == 0 || is_live number (events journal)

-- the history of the live life of a number; that of 0 is channel zero's
abbrev pub history : ℕ → List Item → List Item
history number journal =
    if number == 0 then zero_history journal else life number (life_now number journal) journal

-- a close of 0 was granted, by either side
abbrev pub is_released : List Item → Bool
is_released journal = has_release (events journal)
