use Rattle.std.proofs.Common.{length}
use Rattle.beep_tally.proofs.accounts.+end_each.Given as goal

abbrev pub decreases-end_each : goal.decreases-end_each
decreases-end_each l = length l.before.now
