use Rattle.beep_desk.proofs.StepLemmas.{ends-step}
use Rattle.beep_desk.proofs.laws.no_answer_is_held_that_its_script_lists.Goals as goal

pub returns : goal.returns
returns c plan terms size item journal given taken peer placed quiet none w s upright all_taken says stuck =
    ends-step plan size item journal placed given taken peer w s all_taken says stuck quiet none terms upright
