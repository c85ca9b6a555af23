use Rattle.std.proofs.Common.{length}
use Rattle.beep_script.proofs.deciding.+uri_at.Given as goal

abbrev pub decreases-uri_at : goal.decreases-uri_at
decreases-uri_at l = length l.offers.now
