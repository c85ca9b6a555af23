use Rattle.std.proofs.Common.{length}
use Rattle.beep_journal.proofs.of_lives.+has_release.Given as goal

abbrev pub decreases-has_release : goal.decreases-has_release
decreases-has_release l = length l.events.now
