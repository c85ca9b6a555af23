use Rattle.beep_two_sessions.proofs.NoStallLemmas.{released-taken}
use Rattle.beep_two_sessions.proofs.laws.a_released_session_was_taken_whole.Goals as goal

pub returns : goal.returns
returns c = λ moves world n k r above pos e. released-taken moves world r n k above pos e
