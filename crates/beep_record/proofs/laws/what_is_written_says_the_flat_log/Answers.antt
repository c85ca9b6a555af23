use Rattle.beep_record.proofs.LawLemmas.{written_role, written_log}
use Rattle.beep_record.proofs.laws.what_is_written_says_the_flat_log.Goals as goal

pub returns : goal.returns
returns c = record { role = written_role; log = written_log }
