-- Each call has one octet or entry less.
use Rattle.std.proofs.Common.{length}
use Rattle.beep_shown.proofs.shown.Shown.+of.Given as goal

abbrev pub decreases-of : goal.decreases-of
decreases-of l = length l.log.now
