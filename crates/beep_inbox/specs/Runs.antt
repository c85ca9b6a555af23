-- What arrived in one life and was not taken: runs of octets of one message each, the oldest first,
-- and whether the end of the message stands after them (RFC 3080, section 2.1).
-- The code keeps one list of octets and a short entry for each run; here a run has its octets.
use Rattle.std.specs.Prelude.{◌≡◌, ℕ, ◌+◌, Bool, true, not, ◌&&◌, ◌||◌, nat_lt, if◌then◌else◌, List, [], ◌∷◌, ◌++◌, length, map, drop}
use Rattle.beep_frame.specs.declared.tag.Tag.{Tag}
use Rattle.beep_history.specs.Marks.{Mark, octet, end}
use Rattle.beep_history.specs.Messages.{same_tag}

-- octets of one message that stand together: what they are marked with, and whether its end follows
pub record Run : Type 0 where
  pub tag : Tag
  pub octets : List ℕ
  pub ended : Bool

-- the marks of octets of one message, and of its end where it follows
abbrev pub marks_with : Tag → List ℕ → Bool → List Mark
marks_with tag octets ended = map (octet tag) octets ++ (if ended then end tag ∷ [] else [])

-- the marks of a run
abbrev pub run_marks : Run → List Mark
run_marks run = marks_with run.tag run.octets run.ended

-- the marks of some runs, in order
abbrev pub marks_of : List Run → List Mark
marks_of [] = []
marks_of (run ∷ runs) = run_marks run ++ marks_of runs

-- how many octets some runs have
abbrev pub octets_of : List Run → ℕ
octets_of [] = 0
octets_of (run ∷ runs) = length run.octets + octets_of runs

-- a run has a mark: an octet, or the end
abbrev pub has_mark : Run → Bool
has_mark run = nat_lt 0 (length run.octets) || run.ended

-- each of these runs has a mark
abbrev pub AllMarked : List Run → Type 0
AllMarked [] = Unit {0}
AllMarked (run ∷ runs) = (has_mark run ≡ true) × AllMarked runs

-- ---- putting

-- a run goes on with the message of the one before it
abbrev pub joins : Run → Run → Bool
joins run before = same_tag run.tag before.tag && not before.ended

-- two runs of one message as one
abbrev pub joined : Run → Run → Run
joined before run =
    record { tag = before.tag; octets = before.octets ++ run.octets; ended = run.ended }

-- a run after the last one, as one with it where it goes on with its message
abbrev pub put_after : List Run → Run → List Run
put_after [] run = run ∷ []
put_after (last ∷ []) run =
    if joins run last then joined last run ∷ [] else last ∷ run ∷ []
put_after (first ∷ next ∷ runs) run = first ∷ put_after (next ∷ runs) run

-- a run after the others, where it has a mark
abbrev pub put_run : List Run → Run → List Run
put_run runs run = if has_mark run then put_after runs run else runs

-- ---- taking

-- the first so many octets of the first run are taken, and its end where that follows
abbrev pub left_runs : ℕ → List Run → List Run
left_runs count [] = []
left_runs count (run ∷ runs) =
    if nat_lt count (length run.octets)
    then record run { octets = drop count run.octets } ∷ runs
    else runs
