use Rattle.std.proofs.Common.{length}
use Rattle.beep_history.proofs.windows.+octets_acked.Given as goal

abbrev pub decreases-octets_acked : goal.decreases-octets_acked
decreases-octets_acked l = length l.past.now
