use Rattle.beep_replies.proofs.SaidLemmas.{said}
use Rattle.beep_replies.proofs.laws.what_is_said_is_replies.Goals as goal

pub returns : goal.returns
returns c = said
