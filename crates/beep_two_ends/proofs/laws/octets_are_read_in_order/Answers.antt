use Rattle.beep_two_ends.proofs.OctetsLemmas.{reads_in_order}
use Rattle.beep_two_ends.proofs.laws.octets_are_read_in_order.Goals as goal

pub returns : goal.returns
returns c = reads_in_order
