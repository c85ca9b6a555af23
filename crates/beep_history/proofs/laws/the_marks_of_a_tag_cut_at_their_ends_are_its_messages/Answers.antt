use Rattle.beep_history.proofs.MessagesLemmas.{marks-cut, marks-left, marks-order}
use Rattle.beep_history.proofs.laws.the_marks_of_a_tag_cut_at_their_ends_are_its_messages.Goals as goal

pub returns : goal.returns
returns c = record {
  contents = λ side past tag. marks-cut tag side past;
  left = λ side past tag. marks-left tag side past;
  order = marks-order;
}
