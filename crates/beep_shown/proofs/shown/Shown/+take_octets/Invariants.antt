-- Each call has one octet or entry less.
use Rattle.std.proofs.Common.{length}
use Rattle.beep_shown.proofs.shown.Shown.+take_octets.Given as goal

abbrev pub decreases-take_octets : goal.decreases-take_octets
decreases-take_octets l = length l.octets.now
