use Rattle.std.proofs.Common.{length}
use Rattle.beep_journal.proofs.of_lives.+lives.Given as goal

abbrev pub decreases-has_ended : goal.decreases-has_ended
decreases-has_ended l = length l.events.now

abbrev pub decreases-life_named : goal.decreases-life_named
decreases-life_named l = length l.events.now

abbrev pub decreases-lives : goal.decreases-lives
decreases-lives l = length l.events.now
