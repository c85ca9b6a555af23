use Rattle.beep_desk.proofs.StandLemmas.{stands-alike}
use Rattle.beep_desk.proofs.laws.what_a_session_keeps_stands_as_its_script_says.Goals as goal

pub returns : goal.returns
returns c = stands-alike
