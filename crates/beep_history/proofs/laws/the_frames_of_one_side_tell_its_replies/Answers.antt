use Rattle.beep_history.proofs.RepliesLemmas.{replies, answered, position-is}
use Rattle.beep_history.proofs.laws.the_frames_of_one_side_tell_its_replies.Goals as goal

pub returns : goal.returns
returns c = record {
  replies = λ side past position u. replies side past u position;
  answered = λ side past position u. answered side past u position;
  named = position-is;
}
