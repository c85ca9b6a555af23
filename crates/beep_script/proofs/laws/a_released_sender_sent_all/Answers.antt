use Rattle.beep_script.proofs.ReplyLemmas.{sent-all}
use Rattle.beep_script.proofs.laws.a_released_sender_sent_all.Goals as goal

pub returns : goal.returns
returns c = sent-all
