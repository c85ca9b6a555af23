use Rattle.std.proofs.Common.{ℕ, ◌==◌, ap}
use Rattle.beep_standing.specs.beep_history.specs.declared.journal.Side.{Side}
use Rattle.beep_standing.specs.beep_history.specs.Broken.{under_way}
use Rattle.beep_hearing.proofs.TextLemmas.{none-left}
use Rattle.beep_hearing.proofs.ear.Ear.between_frames.Goals as goal

pub returns-clause-stands : goal.returns-clause-stands
returns-clause-stands c fed rest journal h =
    none-left c.args.self.now.decoder fed h.is_fed.frames rest (under_way Side.Received journal) c.left.result h.is_fed.was_fed (c.left.ensures.stands fed rest journal h)

pub returns-clause-waiting : goal.returns-clause-waiting
returns-clause-waiting c size fed journal given taken head payload channels w = ap (λ (n : ℕ). n == 0) (c.left.ensures.waiting size fed journal given taken head payload channels w)
