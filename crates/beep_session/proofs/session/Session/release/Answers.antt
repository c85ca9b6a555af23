-- A release that isn't refused may be asked.
use Rattle.std.proofs.Common.{◌≡◌, false, None, sym, subst}
use Rattle.beep_giving.specs.beep_peer.specs.Peering.{zero_waits}
use Rattle.beep_giving.specs.beep_peer.specs.Acts.{release_refusal}
use Rattle.beep_giving.specs.beep_peer.proofs.ReleasesLemmas.{may-release}
use Rattle.beep_session.specs.Session.{Held}
use Rattle.beep_session.proofs.ActLemmas.{going-now, held-now, still-upright}
use Rattle.beep_session.proofs.session.Session.release.Goals as goal

pub release_refusal-requires : goal.release_refusal-requires
release_refusal-requires c = record {
  held = λ going. held-now c.self.inside.limits.window c.self.inside.peer
      (going-now c.self.inside.limits.window c.self.inside.peer c.self.invariant.0.reached going
      (subst (λ (h : Held). zero_waits h.peer ≡ false) (sym c.self.view_is) c.requires.settled));
}

pub returns-in-Ok-clause-upright : goal.returns-in-Ok-clause-upright
returns-in-Ok-clause-upright c fed rest journal given taken s u =
    let now = c.args.self.now in
    c.in-Ok.ensures.upright fed rest journal given taken s u
    (may-release now.limits.window journal given taken now.peer s.holds
    (subst (λ (h : Held). release_refusal h.peer ≡ None) c.self.view_is (sym c.in_default.ensures)))

pub returns-in-Err-clause-upright : goal.returns-in-Err-clause-upright
returns-in-Err-clause-upright c = still-upright c.args.self.now c.give_close.new.self c.in-Err.ensures.err
