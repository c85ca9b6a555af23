use Rattle.beep_desk.proofs.DeskLemmas.{desk-waits}
use Rattle.beep_desk.proofs.laws.what_is_owed_waits_as_its_script_says.Goals as goal

pub returns : goal.returns
returns c = desk-waits
