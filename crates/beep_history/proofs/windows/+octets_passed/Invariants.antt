use Rattle.std.proofs.Common.{length}
use Rattle.beep_history.proofs.windows.+octets_passed.Given as goal

abbrev pub decreases-octets_passed : goal.decreases-octets_passed
decreases-octets_passed l = length l.past.now
