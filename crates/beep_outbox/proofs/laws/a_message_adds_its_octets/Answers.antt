use Rattle.beep_outbox.proofs.laws.a_message_adds_its_octets.Goals as goal
use Rattle.beep_outbox.proofs.QueueLemmas.{octets-given}

pub returns : goal.returns
returns c = octets-given
