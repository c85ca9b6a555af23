use Rattle.std.proofs.Common.{length}
use Rattle.beep_history.proofs.history.+has_other_kind.Given as goal

abbrev pub decreases-has_other_kind : goal.decreases-has_other_kind
decreases-has_other_kind l = length l.past.now
