use Rattle.std.proofs.Common.{◌+◌, ◌-◌, ◌≤◌, vec_len}
use Rattle.beep_input.specs.declared.whole.TheConstants.{MAX_INPUT}
use Rattle.beep_input.specs.Gathering.{HasCome}
use Rattle.beep_input.proofs.whole.read_input.Given as goal

abbrev pub invariant-loop-count : goal.invariant-loop-count
invariant-loop-count g l =
    (l.count ≤ MAX_INPUT + 1) × (vec_len l.octets ≤ MAX_INPUT + 1) × HasCome l.count l.octets.items (g.I.Source.state l.initial.input) (g.I.Source.state l.input)

abbrev pub decreases-loop-count : goal.decreases-loop-count
decreases-loop-count g l = MAX_INPUT + 1 - l.count
