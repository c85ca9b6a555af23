use Rattle.std.proofs.Common.{length}
use Rattle.beep_history.proofs.history.+octets_begun.Given as goal

abbrev pub decreases-octets_begun : goal.decreases-octets_begun
decreases-octets_begun l = length l.past.now
