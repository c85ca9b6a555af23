use Rattle.std.proofs.Common.{length}
use Rattle.beep_report.proofs.summary.+all_taken.Given as goal

abbrev pub decreases-all_taken : goal.decreases-all_taken
decreases-all_taken l = length l.accounts.now
