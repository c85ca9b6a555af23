use Rattle.beep_replies.proofs.StayLemmas.{stays-at}
use Rattle.beep_replies.proofs.laws.what_was_sent_stays_of_the_script.Goals as goal

pub returns : goal.returns
returns c = stays-at
