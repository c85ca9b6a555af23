use Rattle.beep_logged.proofs.EndLemmas.{broken-gots}
use Rattle.beep_logged.proofs.laws.what_is_read_after_a_broken_rule_changes_nothing.Goals as goal

pub returns : goal.returns
returns c = λ terms rule place octets log l. broken-gots terms rule place octets log l
