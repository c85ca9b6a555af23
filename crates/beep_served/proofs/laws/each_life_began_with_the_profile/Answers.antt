use Rattle.beep_served.proofs.ProfileLemmas.{have-profile}
use Rattle.beep_served.proofs.laws.each_life_began_with_the_profile.Goals as goal

pub returns : goal.returns
returns c = have-profile
