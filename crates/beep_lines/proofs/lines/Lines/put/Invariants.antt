-- The lines so far, and those of the entries after them, are the lines of the message.
use Rattle.std.proofs.Common.{◌≡◌, ◌-◌, ◌≤◌, ◌++◌, length, drop}
use Rattle.std.specs.List.{flat_map}
use Rattle.prof_raw.specs.Entries.{entries_of}
use Rattle.prof_raw.specs.Line.{line_of}
use Rattle.beep_link.specs.Causes.{Grows, WithText}
use Rattle.beep_lines.proofs.lines.Lines.put.Given as goal

abbrev pub invariant-loop-place : goal.invariant-loop-place
invariant-loop-place g l = record {
  within : l.at ≤ length l.body;
  wrote : WithText (g.O.Sink.state l.fn.output).written (g.O.Sink.state l.output).written
      (λ more. l.fn.self.octets.octets ++ flat_map line_of (entries_of l.body) ≡ more ++ l.self.octets.octets ++ flat_map line_of (entries_of (drop l.at l.body)));
  grew : Grows (g.O.Sink.state l.fn.output).written (g.O.Sink.state l.output).written;
  kept : (g.O.Sink.state l.fn.output).faults ≤ (g.O.Sink.state l.output).faults;
}

abbrev pub decreases-loop-place : goal.decreases-loop-place
decreases-loop-place g l = length l.body - l.at
