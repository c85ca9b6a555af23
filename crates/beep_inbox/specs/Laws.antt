-- What runs are, as marks: a list that grows at its end and is taken from its front.
use Rattle.std.specs.Prelude.{ℕ, List, take}
use Rattle.beep_history.specs.Marks.{Mark}
use Rattle.beep_inbox.specs.declared.part.Part.{Part}
use Rattle.beep_inbox.specs.Runs.{marks_with}

-- the marks that a take gives, by what it answers and by the buffer after it
abbrev pub part_marks : Part → List ℕ → List Mark
part_marks part after = marks_with part.tag (take part.len after) part.ended
