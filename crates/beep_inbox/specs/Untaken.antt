-- An inbox as a list of runs, and what one take makes of it.
-- The code keeps the octets of all runs in one list, and of each run its tag, its length and its
-- end.
use Rattle.std.specs.Prelude.{◌≡◌, ℕ, ◌+◌, ◌-◌, ◌==◌, nat_lt, if◌then◌else◌, Bool, false, not, ◌&&◌, min, List, [], ◌∷◌, ◌++◌, length, take, drop}
use Rattle.beep_history.specs.Messages.{same_tag}
use Rattle.beep_inbox.specs.declared.part.Part.{Part}
use Rattle.beep_inbox.specs.Runs.{Run, left_runs}

-- the runs, how many octets they may have, and how many more runs find room without taking memory
pub record Untaken : Type 0 where
  pub runs : List Run
  pub window : ℕ
  pub places : ℕ

-- this part is the first octets of the first run, as many as the buffer holds, and its end where
-- that follows
pub record IsTaken (part : Part) (old new : List Run) (before after : List ℕ) : Type 0 where
  pub first : Run
  pub others : List Run
  pub is : old ≡ first ∷ others
  pub tag : part.tag ≡ first.tag
  pub len : part.len ≡ min (length first.octets) (length before)
  pub ended : part.ended ≡ (first.ended && (part.len == length first.octets))
  pub left : new ≡ left_runs part.len old
  pub octets : after ≡ take part.len first.octets ++ drop part.len before

-- ---- as the code keeps it

-- a run of its octets
abbrev pub run_of : Part → List ℕ → Run
run_of part octets = record { tag = part.tag; octets = octets; ended = part.ended }

-- the runs that these parts cut from one list of octets
abbrev pub runs_of : List Part → List ℕ → List Run
runs_of [] octets = []
runs_of (part ∷ parts) octets =
    run_of part (take part.len octets) ∷ runs_of parts (drop part.len octets)

-- how many octets these parts have
abbrev pub lengths : List Part → ℕ
lengths [] = 0
lengths (part ∷ parts) = part.len + lengths parts

-- a part goes on with the message of the one before it
abbrev pub goes_on : Part → Part → Bool
goes_on part before = same_tag part.tag before.tag && not before.ended

-- two parts of one message as one
abbrev pub joined_part : Part → Part → Part
joined_part before part =
    record { tag = before.tag; len = before.len + part.len; ended = part.ended }

-- a part after the last one, as one with it where it goes on with its message
abbrev pub put_part : List Part → Part → List Part
put_part [] part = part ∷ []
put_part (last ∷ []) part =
    if goes_on part last then joined_part last part ∷ [] else last ∷ part ∷ []
put_part (first ∷ next ∷ parts) part = first ∷ put_part (next ∷ parts) part

-- the first so many octets of a part, and the part without them
abbrev pub beginning : ℕ → Part → Part
beginning count part = record { tag = part.tag; len = count; ended = false }

abbrev pub remainder : ℕ → Part → Part
remainder count part = record { tag = part.tag; len = part.len - count; ended = part.ended }

-- at most so many octets of the first part
abbrev pub first_part : ℕ → Part → Part
first_part most part = if nat_lt most part.len then beginning most part else part

-- what is left of the parts without these
abbrev pub left_parts : ℕ → Part → List Part → List Part
left_parts most part parts =
    if nat_lt most part.len then remainder most part ∷ parts else parts

-- the first part was taken, or its beginning
pub record TakesPart (part : Part) (old new : List Part) (most : ℕ) : Type 0 where
  pub first : Part
  pub others : List Part
  pub is : old ≡ first ∷ others
  pub part_is : part ≡ first_part most first
  pub left : new ≡ left_parts most first others
