use Rattle.std.proofs.Common.{◌≡◌, ◌≤◌, ◌+◌, ◌-◌, Bool, false}
use Rattle.beep_show.specs.Listing.{Reads}
use Rattle.beep_show.specs.Passing.{GoesOn}
use Rattle.beep_show.proofs.showing.list_input.Given as goal
use Rattle.beep_frame.specs.Fed.{nothing_fed}

abbrev pub invariant-loop-left : goal.invariant-loop-left
invariant-loop-left g l =
    (l.left ≤ l.octets) × ((g.I.Source.state l.input).ended ≡ false) × ((g.I.Source.state l.input).reads ≤ (g.I.Source.state l.initial.input).reads + (l.octets - l.left)) × ((g.I.Source.state l.initial.input).faults ≤ (g.I.Source.state l.input).faults) × ((g.O.Sink.state l.initial.output).faults ≤ (g.O.Sink.state l.output).faults) × ((elements : Bool) → Reads elements l.initial.lister nothing_fed → GoesOn (record { elements = elements; octets = l.octets }) l.lister (g.I.Source.state l.initial.input).left (g.I.Source.state l.input).left (g.O.Sink.state l.initial.output).written (g.O.Sink.state l.output).written l.left)

abbrev pub decreases-loop-left : goal.decreases-loop-left
decreases-loop-left g l = l.left
