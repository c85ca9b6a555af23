-- What two ends say of their links and of the output that both write to, each as if it were alone.
use Rattle.std.specs.Prelude.{ℕ, Option, Some, None, List}
use Rattle.std.specs.Io.KnownBytes.{Appends}
use Rattle.beep_wires.specs.Log.{Entry}
use Rattle.beep_link.specs.Causes.{WhereKnown}
use Rattle.beep_link.specs.declared.ended.Ended.{Ended}
use Rattle.turn_tests.specs.Merge.{IsMerge}
use Rattle.turn_tests.specs.declared.two.Which.{Which}

-- what ended the one
abbrev pub one_ended : Which → Option Ended
one_ended (Which.One ended) = Some ended
one_ended (Which.Other ended) = None

-- what ended the other
abbrev pub other_ended : Which → Option Ended
other_ended (Which.One ended) = None
other_ended (Which.Other ended) = Some ended

-- where an end has ended, its log tells why, and what its text is; else it stands for both
abbrev pub Says : Option Ended → (Ended → List Entry → List ℕ → Type 0)
    → (List Entry → List ℕ → Type 0) → List ℕ → Option (List Entry) → Type 0
Says None tells stands text log = WhereKnown (λ known. stands known text) log
Says (Some ended) tells stands text log = WhereKnown (λ known. tells ended known text) log

-- an output grew by a merge of two texts, of each of which this holds
pub record IsShared (before now : Option (List ℕ)) (One Other : List ℕ → Type 0) : Type 0 where
  pub one : List ℕ
  pub other : List ℕ
  pub all : List ℕ
  pub merges : IsMerge one other all
  pub grew : Appends before now all
  pub of_one : One one
  pub of_other : Other other
