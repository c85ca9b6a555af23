-- Where an end's link was read, by what the end tells where it is idle.
use Rattle.std.specs.Prelude.{ℕ, Option, List}
use Rattle.beep_wires.specs.Log.{Entry}
use Rattle.beep_link.specs.Causes.{ReadsWhere, WhereKnown}
use Rattle.beep_link.specs.declared.ended.Ended.{Ended}

-- of a log up to there holds, with some text, what the end tells where it is idle
abbrev pub IsToldIdle : (Ended → List Entry → List ℕ → Type 0) → List Entry → Type 0
IsToldIdle tells log = (text : List ℕ) × tells (Ended.Idle 0) log text

-- wherever a log that is known shows a read, that holds of the log before it
abbrev pub Waits : (Ended → List Entry → List ℕ → Type 0) → Option (List Entry) → Type 0
Waits tells log = WhereKnown (ReadsWhere (IsToldIdle tells)) log
