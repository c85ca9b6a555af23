use Rattle.beep_released.proofs.ClosedLemmas.{granted-count}
use Rattle.beep_released.proofs.laws.a_granted_close_was_asked.Goals as goal

pub returns : goal.returns
returns c = granted-count
