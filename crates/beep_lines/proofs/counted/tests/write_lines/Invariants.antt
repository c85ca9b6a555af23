-- What is counted is what this output is given from here on.
use Rattle.std.proofs.Common.{Some}
use Rattle.beep_lines.proofs.counted.tests.write_lines.Given as goal

abbrev pub ghosts-write_through : goal.ghosts-write_through
ghosts-write_through g a = record { known = Some (record { output = a.sink.output.ghost_name; written = (g.O.Sink.state a.sink.output.now).written }) }
