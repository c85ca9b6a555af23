use Rattle.beep_inbox.proofs.laws.a_take_gives_the_first_marks.Goals as goal
use Rattle.beep_inbox.proofs.RunsLemmas.{take-marks}

pub returns : goal.returns
returns c part old new before after t =
    take-marks t.first t.others part.tag part.len part.ended old new before after
    t.is t.tag t.len t.ended t.left t.octets
