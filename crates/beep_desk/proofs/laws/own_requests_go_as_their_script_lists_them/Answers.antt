use Rattle.beep_desk.proofs.StepLemmas.{asks-before, asks-step}
use Rattle.beep_desk.proofs.laws.own_requests_go_as_their_script_lists_them.Goals as goal

pub returns : goal.returns
returns c plan terms size item journal given taken after later peer next messages in_turn none w s all_taken says stuck after_is are answers stands upright =
    asks-step plan size item journal (asks-before plan item journal in_turn) given taken peer w s all_taken says stuck in_turn none terms after later next messages after_is are answers stands upright
