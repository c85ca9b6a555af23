use Rattle.beep_replies.proofs.SaidLemmas.{nothing-said, other-profile}
use Rattle.beep_replies.proofs.laws.without_the_profile_nothing_is_said.Goals as goal

pub returns : goal.returns
returns c = record { before = nothing-said; other = other-profile }
