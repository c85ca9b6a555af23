use Rattle.beep_inbox.proofs.laws.a_take_leaves_the_other_octets.Goals as goal
use Rattle.beep_inbox.proofs.RunsLemmas.{take-octets}

pub returns : goal.returns
returns c part old new before after t =
    take-octets t.first t.others part.len old new before t.is t.len t.left
