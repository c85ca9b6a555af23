use Rattle.std.proofs.Common.{length}
use Rattle.beep_script.proofs.standing_now.+put_owed_starting.Given as goal

abbrev pub decreases-put_owed_starting : goal.decreases-put_owed_starting
decreases-put_owed_starting l = length l.owed.now
