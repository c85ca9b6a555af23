use Rattle.beep_growing.proofs.GrowLemmas.{desks-more, desks-waiting, desks-within}
use Rattle.beep_growing.proofs.laws.a_desk_goes_on_with_more_lines.Goals as goal

pub returns-clause-on : goal.returns-clause-on
returns-clause-on c = desks-more

pub returns-clause-within : goal.returns-clause-within
returns-clause-within c = desks-within

pub returns-clause-waiting : goal.returns-clause-waiting
returns-clause-waiting c = desks-waiting
