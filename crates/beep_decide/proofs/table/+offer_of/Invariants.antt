use Rattle.std.proofs.Common.{length}
use Rattle.beep_decide.proofs.table.+offer_of.Given as goal

abbrev pub decreases-offer_of : goal.decreases-offer_of
decreases-offer_of l = length l.offers.now
