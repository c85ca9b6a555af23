use Rattle.beep_history.proofs.OrderLemmas.{ends-once}
use Rattle.beep_history.proofs.laws.one_frame_ends_each_reply.Goals as goal

pub returns : goal.returns
returns c = ends-once
