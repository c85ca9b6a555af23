use Rattle.std.proofs.Common.{length}
use Rattle.beep_talk.proofs.talking.+has_profile.Given as goal

abbrev pub decreases-has_profile : goal.decreases-has_profile
decreases-has_profile l = length l.journal.now
