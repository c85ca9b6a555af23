use Rattle.std.proofs.Common.{length}
use Rattle.beep_script.proofs.standing_now.+has_listed_release.Given as goal

abbrev pub decreases-has_listed_release : goal.decreases-has_listed_release
decreases-has_listed_release l = length l.listed.now
