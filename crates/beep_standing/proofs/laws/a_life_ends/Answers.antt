use Rattle.beep_standing.proofs.LivesLemmas.{life-ends}
use Rattle.beep_standing.proofs.laws.a_life_ends.Goals as goal

pub returns : goal.returns
returns c = λ size number lives given taken old new item s ends zero leaves.
    life-ends size number lives given taken old new item s zero ends leaves
