-- The table was tried at each number.
use Rattle.beep_octets.proofs.PairLemmas.{tens_right}
use Rattle.beep_octets.proofs.front.tens_of.Goals as goal

pub returns : goal.returns
returns c = tens_right c.args.number c.requires
