-- What is counted is what this output is given from here on.
use Rattle.std.proofs.Common.{Some}
use Rattle.beep_cmd.proofs.listen.listen_once.Given as goal

abbrev pub ghosts-listen_counted : goal.ghosts-listen_counted
ghosts-listen_counted g a = record { known = Some (record { output = a.sink.output.ghost_name; written = (g.O.Sink.state a.sink.output.now).written }) }
