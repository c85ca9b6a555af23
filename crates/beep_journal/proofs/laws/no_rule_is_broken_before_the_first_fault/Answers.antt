use Rattle.beep_journal.proofs.UnbrokenLemmas.{shown-unbroken}
use Rattle.beep_journal.proofs.laws.no_rule_is_broken_before_the_first_fault.Goals as goal

pub returns : goal.returns
returns c = record {
  whole = λ tunes log past shows. (shown-unbroken tunes log past shows).0;
  before = λ tunes log past shows. (shown-unbroken tunes log past shows).1;
}
