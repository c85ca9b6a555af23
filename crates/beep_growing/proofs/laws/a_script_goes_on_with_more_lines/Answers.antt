use Rattle.beep_growing.proofs.GrowLemmas.{scripted-more, scripted-waiting}
use Rattle.beep_growing.proofs.laws.a_script_goes_on_with_more_lines.Goals as goal

pub returns-clause-on : goal.returns-clause-on
returns-clause-on c = scripted-more

pub returns-clause-waiting : goal.returns-clause-waiting
returns-clause-waiting c = scripted-waiting
