use Rattle.std.proofs.Common.{length}
use Rattle.beep_report.proofs.summary.+given_by_b.Given as goal

abbrev pub decreases-given_by_b : goal.decreases-given_by_b
decreases-given_by_b l = length l.accounts.now
