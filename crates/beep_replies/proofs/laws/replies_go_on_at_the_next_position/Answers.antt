use Rattle.beep_replies.proofs.SaidLemmas.{next-reply}
use Rattle.beep_replies.proofs.laws.replies_go_on_at_the_next_position.Goals as goal

pub returns : goal.returns
returns c = next-reply
