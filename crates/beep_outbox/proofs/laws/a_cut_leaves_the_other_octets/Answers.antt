use Rattle.beep_outbox.proofs.laws.a_cut_leaves_the_other_octets.Goals as goal
use Rattle.beep_outbox.proofs.QueueLemmas.{octets-cut}

pub returns : goal.returns
returns c = octets-cut
