use Rattle.std.proofs.Common.{length}
use Rattle.beep_journal.proofs.zero.+zero_events.Given as goal

abbrev pub decreases-zero_events : goal.decreases-zero_events
decreases-zero_events l = length l.zero.now
