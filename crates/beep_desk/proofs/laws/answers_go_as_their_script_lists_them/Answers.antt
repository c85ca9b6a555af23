use Rattle.beep_desk.proofs.StepLemmas.{goes-step}
use Rattle.beep_desk.proofs.laws.answers_go_as_their_script_lists_them.Goals as goal

pub returns : goal.returns
returns c plan size item journal given after taken answers peer placed w g s done =
    goes-step plan size item journal placed given after taken answers peer w g s done
