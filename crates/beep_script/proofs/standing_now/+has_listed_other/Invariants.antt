use Rattle.std.proofs.Common.{length}
use Rattle.beep_script.proofs.standing_now.+has_listed_other.Given as goal

abbrev pub decreases-has_listed_other : goal.decreases-has_listed_other
decreases-has_listed_other l = length l.listed.now
