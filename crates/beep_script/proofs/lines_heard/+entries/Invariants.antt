use Rattle.std.proofs.Common.{length}
use Rattle.beep_script.proofs.lines_heard.+entries.Given as goal

abbrev pub decreases-entries : goal.decreases-entries
decreases-entries l = length l.journal.now
