use Rattle.beep_standing.specs.beep_frame.specs.Fed.{fed_of}
use Rattle.beep_standing.specs.beep_history.specs.declared.journal.Side.{Side}
use Rattle.beep_standing.specs.beep_history.specs.Broken.{under_way}
use Rattle.beep_standing.specs.beep_frame.specs.Frame.{framed}
use Rattle.std.proofs.Common.{[], ◌∷◌, ◌++◌, None}
use Rattle.beep_hearing.proofs.ear.Ear.left.Goals as goal

pub returns-in-None-clause-stands : goal.returns-in-None-clause-stands
returns-in-None-clause-stands c fed rest journal h =
    c.left.ensures.stands (fed_of fed h.is_fed.frames rest (under_way Side.Received journal)) h.is_fed.was_fed

pub returns-in-None-clause-waiting : goal.returns-in-None-clause-waiting
returns-in-None-clause-waiting c size fed journal given taken head payload channels w =
    c.left.ensures.stands (fed_of fed (w.frames ++ framed head payload ∷ []) [] None) w.was_fed
