use Rattle.std.proofs.Common.{length}
use Rattle.beep_script.proofs.standing_now.+put_own_starting.Given as goal

abbrev pub decreases-put_own_starting : goal.decreases-put_own_starting
decreases-put_own_starting l = length l.listed.now
