use Rattle.beep_plain.proofs.OutcomeLemmas.{empty_alive}
use Rattle.beep_plain.proofs.outcome.stop.Goals as goal

pub loop-at-init : goal.loop-at-init
loop-at-init c = empty_alive
