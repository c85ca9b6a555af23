-- The table was tried at each number.
use Rattle.beep_octets.proofs.PairLemmas.{ones_right}
use Rattle.beep_octets.proofs.front.ones_of.Goals as goal

pub returns : goal.returns
returns c = ones_right c.args.number c.requires
