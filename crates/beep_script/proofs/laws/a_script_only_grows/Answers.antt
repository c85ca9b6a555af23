use Rattle.beep_script.proofs.GrowLemmas.{script-grows}
use Rattle.beep_script.proofs.laws.a_script_only_grows.Goals as goal

pub returns : goal.returns
returns c = script-grows
