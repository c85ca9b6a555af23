use Rattle.std.proofs.Common.{◌≡◌, ◌==◌, sym, subst}
use Rattle.std.specs.Prelude.{IfSome}
use Rattle.beep_giving.specs.beep_peer.specs.Peering.{IsPeer, WaitsIn}
use Rattle.beep_session.specs.Session.{Held}
use Rattle.beep_session.proofs.session.Session.between_frames.Goals as goal

pub returns : goal.returns
returns c = record {
  stands = λ fed rest journal given taken s.
      let stands : IsPeer c.self.inside.limits.window fed rest journal given taken c.self.inside.peer =
      subst (λ (h : Held). IsPeer h.limits.window fed rest journal given taken h.peer) (sym c.self.view_is) s in
      c.between_frames.ensures.stands fed rest journal stands.hears;
  waiting = λ fed journal given taken head payload w.
      let waits : WaitsIn c.self.inside.limits.window fed journal given taken head payload c.self.inside.peer =
      subst (λ (h : Held). WaitsIn h.limits.window fed journal given taken head payload h.peer) (sym c.self.view_is) w in
      c.between_frames.ensures.waiting c.self.inside.limits.window fed journal given taken head payload c.self.inside.peer.lives waits.waits;
  broken = subst (λ (h : Held). IfSome h.peer.ear.broken (λ stopped. c.between_frames.result ≡ (stopped.left == 0))) c.self.view_is c.between_frames.ensures.broken;
}
