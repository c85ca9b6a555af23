use Rattle.beep_frame.proofs.LawLemmas.{stays_alive}
use Rattle.beep_frame.proofs.laws.what_is_alive_stays_alive_in_each_prefix.Goals as goal

pub returns : goal.returns
returns c = stays_alive
