-- Starts that are tuning, which a session knows beside its journal (RFC 3080, section 2.3.1.2).
-- The code keeps the number of its own tuning start that waits; here each word looks back over
-- channel zero.
use Rattle.std.specs.Prelude.{ℕ, Bool, false, not, ◌&&◌, ◌||◌, List, [], ◌∷◌, length}
use Rattle.std.specs.List.{list_any}
use Rattle.beep_frame.specs.declared.head.Head.{Head}
use Rattle.beep_frame.specs.declared.kind.Kind.{Kind}
use Rattle.beep_frame.specs.Frame.{same_kind}
use Rattle.beep_history.specs.declared.journal.Side.{Side}
use Rattle.beep_history.specs.Journal.{Item, began, passed, told, other}
use Rattle.beep_history.specs.Marks.{requests, waiting, position_of}
use Rattle.beep_journal.specs.Zero.{zero_history, said_to, completes_form}
use Rattle.beep_journal.specs.Broken.{Tuning}
use Rattle.beep_decide.specs.Asks.{is_start}

-- an own tuning start has begun and isn't answered
abbrev pub is_tuning : Tuning → List Item → Bool
is_tuning tunes journal =
    list_any (λ request. tunes Side.Sent request.position)
    (waiting Side.Sent (zero_history journal))

-- the next own request of channel zero is a tuning start
abbrev pub tunes_next : Tuning → List Item → Bool
tunes_next tunes journal = tunes Side.Sent (length (requests Side.Sent (zero_history journal)))

-- ---- the positive reply to a tuning start

-- a passing frame is that reply: the link then carries something else
abbrev pub grants_tuning : Tuning → Side → Head → List ℕ → List Item → Bool
grants_tuning tunes by head payload zero =
    same_kind Kind.Rpy head.kind && not head.more && completes_form by head payload zero
    && is_start (said_to by head zero) && tunes (other by) (position_of by zero head)

-- it has passed, in the history of channel zero
abbrev pub has_tuned : Tuning → List Item → Bool
has_tuned tunes [] = false
has_tuned tunes (began by head ∷ zero) = has_tuned tunes zero
has_tuned tunes (passed by head payload ∷ zero) =
    grants_tuning tunes by head payload zero || has_tuned tunes zero
has_tuned tunes (told by seq ∷ zero) = has_tuned tunes zero
