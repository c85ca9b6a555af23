use Rattle.std.proofs.Common.{◌≡◌, ℕ, ◌≤◌, ◌+◌, List, false, length}
use Rattle.beep_input.specs.declared.whole.TheConstants.{MAX_INPUT, PIECE}
use Rattle.beep_input.specs.Listing.{HasFed}
use Rattle.beep_input.proofs.lines.gather.Given as goal

abbrev pub invariant-loop-left : goal.invariant-loop-left
invariant-loop-left g l = record {
  within : l.left ≤ MAX_INPUT;
  room : length l.piece ≡ PIECE;
  octets : List ℕ;
  fed : HasFed octets l.gathered (g.I.Source.state l.initial.input) (g.I.Source.state l.input);
  left : length octets + l.left ≡ MAX_INPUT;
  going : (g.I.Source.state l.input).ended ≡ false;
  reads : (g.I.Source.state l.input).reads + l.left ≤ (g.I.Source.state l.initial.input).reads + MAX_INPUT;
}

abbrev pub decreases-loop-left : goal.decreases-loop-left
decreases-loop-left g l = l.left
