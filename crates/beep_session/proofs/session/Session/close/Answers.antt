-- A close that isn't refused may be asked.
use Rattle.std.proofs.Common.{◌≡◌, None, sym, subst}
use Rattle.beep_giving.specs.beep_peer.specs.Acts.{close_refusal}
use Rattle.beep_session.specs.Session.{Held}
use Rattle.beep_session.proofs.ActLemmas.{close-may, still-upright}
use Rattle.beep_session.proofs.session.Session.close.Goals as goal

pub returns-in-Ok-clause-upright : goal.returns-in-Ok-clause-upright
returns-in-Ok-clause-upright c fed rest journal given taken s u =
    c.in-Ok.ensures.upright fed rest journal given taken s u
    (close-may c.args.self.now.peer c.args.n c.requires.open.above
    (subst (λ (h : Held). close_refusal h.peer c.args.n ≡ None) c.self.view_is (sym c.in_default.ensures)) c.requires.open.live)

pub returns-in-Err-clause-upright : goal.returns-in-Err-clause-upright
returns-in-Err-clause-upright c = still-upright c.args.self.now c.give_close.new.self c.in-Err.ensures.err
