use Rattle.std.proofs.Common.{length}
use Rattle.beep_pair.proofs.pair.Pair.+take_each.Given as goal

abbrev pub decreases-take_each : goal.decreases-take_each
decreases-take_each l = length l.numbers.now
