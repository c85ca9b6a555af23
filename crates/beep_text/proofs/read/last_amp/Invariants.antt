use Rattle.std.proofs.Common.{◌≡◌, ◌≤◌, drop}
use Rattle.beep_text.specs.Reading.{last_amp, last_amp_from}
use Rattle.beep_text.proofs.read.last_amp.Given as goal

abbrev pub invariant-loop-i : goal.invariant-loop-i
invariant-loop-i l = (l.last ≤ l.i) × (last_amp l.octets ≡ last_amp_from l.last l.i (drop l.i l.octets))
