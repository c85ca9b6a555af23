-- What the definitions of a session mean, in words that need less of them.
use Rattle.std.specs.Prelude.{◌≡◌, ℕ, ◌<◌, ◌≤◌, ◌==◌, Bool, ◌&&◌, not, true, false, if◌then◌else◌, List, [], ◌∷◌, ◌++◌, None}
use Rattle.beep_history.specs.Marks.{Mark, octet, end}
use Rattle.beep_history.specs.declared.journal.Side.{Side}
use Rattle.beep_history.specs.Journal.{Item, began, passed, told, same_side}
use Rattle.beep_journal.specs.Lives.{Event, lives, has_ended}
use Rattle.beep_journal.specs.Zero.{channel_of, zero_history, gathered}
use Rattle.beep_journal.specs.Broken.{Tuning, broken_head, broken_seq, broken_content}

-- this life of a number has begun and not ended
pub record IsLiveLife (number count : ℕ) (events : List Event) : Type 0 where
  pub first : 0 < count
  pub begun : count ≤ lives number events
  pub goes_on : has_ended number count events ≡ false

-- ---- a frame and its header

-- no header of this side is among the items
abbrev pub no_header : Side → List Item → Bool
no_header side [] = true
no_header side (began by head ∷ items) = not (same_side by side) && no_header side items
no_header side (passed by head payload ∷ items) = no_header side items
no_header side (told by seq ∷ items) = no_header side items

-- ---- no rule is broken

-- each item broke no rule as it came: no header, no SEQ and no content
abbrev pub IsUnbroken : Tuning → List Item → Type 0
IsUnbroken tunes [] = Unit {0}
IsUnbroken tunes (began by head ∷ journal) =
    (broken_head tunes by journal head ≡ None) × IsUnbroken tunes journal
IsUnbroken tunes (passed by head payload ∷ journal) =
    (broken_content by journal head payload ≡ None) × IsUnbroken tunes journal
IsUnbroken tunes (told by seq ∷ journal) =
    (broken_seq by journal seq ≡ None) × IsUnbroken tunes journal

-- the same, but for the content of the frame that passed last
abbrev pub IsUnbrokenBefore : Tuning → List Item → Type 0
IsUnbrokenBefore tunes [] = Unit {0}
IsUnbrokenBefore tunes (began by head ∷ journal) = IsUnbroken tunes (began by head ∷ journal)
IsUnbrokenBefore tunes (passed by head payload ∷ journal) = IsUnbroken tunes journal
IsUnbrokenBefore tunes (told by seq ∷ journal) = IsUnbroken tunes (told by seq ∷ journal)

-- ---- messages of channel zero

-- the message that an item completes, as the octets of its frames
abbrev pub completed : Side → Item → List Item → List (List ℕ)
completed side (began by head) zero = []
completed side (passed by head payload) zero =
    if same_side by side && not head.more then (gathered side zero ++ payload) ∷ [] else []
completed side (told by seq) zero = []

-- the whole messages of a side on channel zero, in the order in which they were completed
abbrev pub contents : Side → List Item → List (List ℕ)
contents side [] = []
contents side (item ∷ journal) =
    if channel_of item == 0
    then contents side journal ++ completed side item (zero_history journal)
    else contents side journal

-- the octets of marks, in pieces that end at each end mark, where the first piece goes on from some
-- octets
abbrev pub pieces_from : List ℕ → List Mark → List (List ℕ)
pieces_from begun [] = []
pieces_from begun (octet tag value ∷ marks) = pieces_from (begun ++ value ∷ []) marks
pieces_from begun (end tag ∷ marks) = begun ∷ pieces_from [] marks

-- the octets after the last end mark
abbrev pub rest_from : List ℕ → List Mark → List ℕ
rest_from begun [] = begun
rest_from begun (octet tag value ∷ marks) = rest_from (begun ++ value ∷ []) marks
rest_from begun (end tag ∷ marks) = rest_from [] marks
