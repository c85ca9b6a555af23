use Rattle.beep_desk.proofs.OpenLemmas.{opens-request}
use Rattle.beep_desk.proofs.laws.a_request_is_answered_as_its_script_says.Goals as goal

pub returns : goal.returns
returns c plan size head payload journal given taken peer settled answer placed none zero request last met s d called =
    opens-request plan journal placed none size given taken peer s d head payload zero request last met settled answer called
