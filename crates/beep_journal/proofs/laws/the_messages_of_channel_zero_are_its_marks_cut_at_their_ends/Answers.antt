use Rattle.beep_journal.proofs.PiecesLemmas.{are-cut}
use Rattle.beep_journal.proofs.laws.the_messages_of_channel_zero_are_its_marks_cut_at_their_ends.Goals as goal

pub returns : goal.returns
returns c = record {
  contents = λ side journal keeps. (are-cut side journal keeps).pieces;
  left = λ side journal keeps. (are-cut side journal keeps).rest;
}
