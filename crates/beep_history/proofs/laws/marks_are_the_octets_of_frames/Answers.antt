use Rattle.beep_history.proofs.MarksLemmas.{marks-octets}
use Rattle.beep_history.proofs.laws.marks_are_the_octets_of_frames.Goals as goal

pub returns : goal.returns
returns c = marks-octets
