use Rattle.beep_standing.proofs.LivesLemmas.{life-begins}
use Rattle.beep_standing.proofs.laws.a_life_begins.Goals as goal

pub returns : goal.returns
returns c = λ size number lives given taken old new item channel s begins zero is fresh joins.
    life-begins size number lives given taken old new item s zero begins channel is fresh joins
