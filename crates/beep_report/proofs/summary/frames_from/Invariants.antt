-- The lines so far, and those from the place on, are those of the report.
use Rattle.std.proofs.Common.{◌≡◌, ◌≤◌, ◌+◌, drop}
use Rattle.beep_report.specs.Summary.{lines_from, frames_from}
use Rattle.beep_report.proofs.summary.frames_from.Given as goal

abbrev pub invariant-loop-i : goal.invariant-loop-i
invariant-loop-i l = record {
  few : l.count ≤ l.i;
  all : l.count + lines_from l.at l.begins (drop l.i l.report) ≡ frames_from l.at l.report;
}
