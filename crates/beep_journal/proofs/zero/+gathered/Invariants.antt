use Rattle.std.proofs.Common.{length}
use Rattle.beep_journal.proofs.zero.+gathered.Given as goal

abbrev pub decreases-gathered : goal.decreases-gathered
decreases-gathered l = length l.zero.now
