use Rattle.beep_script.proofs.SendLemmas.{lines-sent}
use Rattle.beep_script.proofs.laws.what_a_sender_sent_whole_is_its_lines.Goals as goal

pub returns : goal.returns
returns c = lines-sent
