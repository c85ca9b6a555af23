-- Which stops writing lines may give.
use Rattle.beep_link.specs.declared.ended.Stop.{Stop}

-- it is because memory ran out, or a write of the output failed
abbrev pub IsOfOutput : Stop → Type 0
IsOfOutput Stop.Released = ⊥
IsOfOutput (Stop.Broken rule place) = ⊥
IsOfOutput Stop.WriteFault = Unit {0}
IsOfOutput Stop.NoMemory = Unit {0}
IsOfOutput (Stop.Refused code) = ⊥
