use Rattle.beep_channel.proofs.ReadyLemmas.{held-ready}
use Rattle.beep_channel.proofs.laws.what_is_held_tells_whether_a_frame_can_go.Goals as goal

pub returns : goal.returns
returns c = λ size held past given taken stands. held-ready size held past given taken stands
