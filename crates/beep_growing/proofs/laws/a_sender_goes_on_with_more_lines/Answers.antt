use Rattle.beep_growing.proofs.GrowLemmas.{follows-on, follows-waiting, follows-within}
use Rattle.beep_growing.proofs.laws.a_sender_goes_on_with_more_lines.Goals as goal

pub returns-clause-on : goal.returns-clause-on
returns-clause-on c = follows-on

pub returns-clause-within : goal.returns-clause-within
returns-clause-within c = follows-within

pub returns-clause-waiting : goal.returns-clause-waiting
returns-clause-waiting c = follows-waiting
