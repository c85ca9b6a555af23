use Rattle.beep_outbox.proofs.laws.a_message_appends_its_marks.Goals as goal
use Rattle.beep_outbox.proofs.QueueLemmas.{marks-given}

pub returns : goal.returns
returns c = marks-given
