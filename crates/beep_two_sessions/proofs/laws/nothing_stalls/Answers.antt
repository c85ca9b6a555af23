use Rattle.beep_two_sessions.proofs.NoStallLemmas.{still-taken}
use Rattle.beep_two_sessions.proofs.laws.nothing_stalls.Goals as goal

pub returns : goal.returns
returns c = λ moves world n k r s above pos. still-taken moves world r s n k above pos
