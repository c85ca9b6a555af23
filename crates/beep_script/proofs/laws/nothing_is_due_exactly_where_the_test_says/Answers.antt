use Rattle.beep_script.proofs.SettledLemmas.{settled-of, settled-test}
use Rattle.beep_script.proofs.laws.nothing_is_due_exactly_where_the_test_says.Goals as goal

pub returns-clause-settled : goal.returns-clause-settled
returns-clause-settled c = settled-of

pub returns-clause-test : goal.returns-clause-test
returns-clause-test c = settled-test
