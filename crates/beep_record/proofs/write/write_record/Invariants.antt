use Rattle.std.proofs.Common.{take}
use Rattle.beep_record.specs.Logged.{log_of}
use Rattle.beep_record.proofs.WrittenLemmas.{Lined}
use Rattle.beep_record.proofs.write.write_record.Given as goal

abbrev pub invariant-loop-entry : goal.invariant-loop-entry
invariant-loop-entry l = Lined l.log.role (log_of (take l.entry-index l.entry-items)) l.text.octets
