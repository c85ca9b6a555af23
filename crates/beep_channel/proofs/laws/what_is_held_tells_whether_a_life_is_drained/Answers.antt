use Rattle.beep_channel.proofs.DrainedLemmas.{is-drained, held-drained}
use Rattle.beep_channel.proofs.laws.what_is_held_tells_whether_a_life_is_drained.Goals as goal

pub returns : goal.returns
returns c = λ size held past given taken stands. (is-drained size held past given taken stands, held-drained size held past given taken stands)
