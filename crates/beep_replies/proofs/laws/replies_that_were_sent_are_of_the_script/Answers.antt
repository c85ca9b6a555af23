use Rattle.beep_replies.proofs.LogLemmas.{kept-at}
use Rattle.beep_replies.proofs.laws.replies_that_were_sent_are_of_the_script.Goals as goal

pub returns : goal.returns
returns c = kept-at
