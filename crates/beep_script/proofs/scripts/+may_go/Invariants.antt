use Rattle.std.proofs.Common.{length}
use Rattle.beep_script.proofs.scripts.+may_go.Given as goal

abbrev pub decreases-may_go : goal.decreases-may_go
decreases-may_go l = length l.messages.now
