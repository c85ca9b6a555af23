use Rattle.beep_script.proofs.HeardLemmas.{lines-grow}
use Rattle.beep_script.proofs.laws.what_was_written_stays.Goals as goal

pub returns : goal.returns
returns c = lines-grow
