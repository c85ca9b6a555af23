use Rattle.beep_record.proofs.LawLemmas.{one_role, one_log}
use Rattle.beep_record.proofs.laws.a_text_says_one_log.Goals as goal

pub returns : goal.returns
returns c = record { role = one_role; log = one_log }
