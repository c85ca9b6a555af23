use Rattle.beep_history.proofs.MarksLemmas.{marks-ends}
use Rattle.beep_history.proofs.laws.end_marks_are_the_complete_frames.Goals as goal

pub returns : goal.returns
returns c = marks-ends
