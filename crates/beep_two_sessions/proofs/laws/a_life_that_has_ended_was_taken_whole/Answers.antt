use Rattle.beep_two_sessions.proofs.NoStallLemmas.{ended-taken}
use Rattle.beep_two_sessions.proofs.laws.a_life_that_has_ended_was_taken_whole.Goals as goal

pub returns : goal.returns
returns c = λ moves world n k r above pos e. ended-taken moves world r n k above pos e
