use Rattle.std.proofs.Common.{refl}
use Rattle.beep_spoken.proofs.laws.nothing_was_spoken_at_first.Goals as goal

pub returns : goal.returns
returns c = record { octets = refl; kinds = refl; whole = refl; said = tt }
