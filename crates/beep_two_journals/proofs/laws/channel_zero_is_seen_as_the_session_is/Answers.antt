use Rattle.beep_two_journals.proofs.ZeroLemmas.{zero_sees}
use Rattle.beep_two_journals.proofs.laws.channel_zero_is_seen_as_the_session_is.Goals as goal

pub returns : goal.returns
returns c = zero_sees
