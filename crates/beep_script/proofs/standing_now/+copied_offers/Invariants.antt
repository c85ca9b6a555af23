use Rattle.std.proofs.Common.{length}
use Rattle.beep_script.proofs.standing_now.+copied_offers.Given as goal

abbrev pub decreases-copied_offers : goal.decreases-copied_offers
decreases-copied_offers l = length l.offers.now
