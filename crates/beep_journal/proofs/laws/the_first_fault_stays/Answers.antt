use Rattle.beep_journal.proofs.ShownLemmas.{fault-stays}
use Rattle.beep_journal.proofs.laws.the_first_fault_stays.Goals as goal

pub returns : goal.returns
returns c = fault-stays
