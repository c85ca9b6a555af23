-- The link that is recorded is the next one that is given.
use Rattle.std.proofs.Common.{Some}
use Rattle.beep_listener.specs.beep_journal.specs.declared.role.Role.{Role}
use Rattle.beep_runs.proofs.recorded.listen_recorded.Given as goal

abbrev pub ghosts-listen_over : goal.ghosts-listen_over
ghosts-listen_over g a = record { known = Some (record { first = (g.W.Wires.counts a.wires.now).given; role = Role.Listener }) }
