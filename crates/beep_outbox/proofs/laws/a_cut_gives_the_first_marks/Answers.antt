use Rattle.beep_outbox.proofs.laws.a_cut_gives_the_first_marks.Goals as goal
use Rattle.beep_outbox.proofs.QueueLemmas.{marks-cut}

pub returns : goal.returns
returns c = marks-cut
