-- The lines so far, and those from the place on, are those of the octets.
use Rattle.std.proofs.Common.{◌≡◌, ◌≤◌, ◌+◌, length, drop}
use Rattle.beep_input.specs.Lines.{pieces_at_lf}
use Rattle.beep_input.proofs.lines.line_after.Given as goal

abbrev pub invariant-loop-i : goal.invariant-loop-i
invariant-loop-i l = record {
  few : l.number ≤ l.i + 1;
  all : l.number + length (pieces_at_lf (drop l.i l.octets)) ≡ length (pieces_at_lf l.octets) + 1;
}
