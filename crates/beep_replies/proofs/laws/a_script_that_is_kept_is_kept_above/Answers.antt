use Rattle.beep_replies.proofs.StayLemmas.{kept-above}
use Rattle.beep_replies.proofs.laws.a_script_that_is_kept_is_kept_above.Goals as goal

pub returns : goal.returns
returns c = kept-above
