use Rattle.std.proofs.Common.{length}
use Rattle.beep_report.proofs.summary.+given_by_a.Given as goal

abbrev pub decreases-given_by_a : goal.decreases-given_by_a
decreases-given_by_a l = length l.accounts.now
