use Rattle.beep_standing.proofs.LivesLemmas.{lives-stay}
use Rattle.beep_standing.proofs.laws.the_lives_stay.Goals as goal

pub returns : goal.returns
returns c = lives-stay
