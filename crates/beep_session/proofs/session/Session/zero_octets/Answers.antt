-- What is held is bounded, by what the session stands for and by the room of the text.
use Rattle.std.proofs.Common.{◌≡◌, ◌≤◌, List, ℕ, length, ap, sym, subst, arith}
use Rattle.beep_giving.specs.beep_text.specs.declared.limits.TheConstants.{MAX_TEXT}
use Rattle.beep_giving.specs.beep_peer.specs.Peering.{IsPeer, WaitsIn}
use Rattle.beep_session.specs.Session.{Held}
use Rattle.beep_session.specs.Bounded.{IsBounded, IsWholeBounded}
use Rattle.beep_session.proofs.BoundedLemmas.{standing-bounded, standing-all, hears-short, waits-short, sum-bounded}
use Rattle.beep_session.proofs.session.Session.zero_octets.Goals as goal

-- the text has no more than can be read
few : (kept octets : List ℕ) → kept ≡ octets → length kept ≤ MAX_TEXT → length octets ≤ MAX_TEXT
few kept octets same short = omega (arith, ap length same, short)

pub returns-clause-bounded : goal.returns-clause-bounded
returns-clause-bounded c =
    subst IsBounded c.self.view_is record {
      life = standing-bounded c.self.inside.limits.window c.self.inside.peer.lives c.self.invariant.0.reached.stands;
      lives = standing-all c.self.inside.limits.window c.self.inside.peer.lives c.self.invariant.0.reached.stands;
      text = few _ _ c.text.ensures.value c.text.ensures.few;
    }

pub returns-clause-stands : goal.returns-clause-stands
returns-clause-stands c fed rest journal given taken s =
    let peer = c.self.inside.peer in
    let stands : IsPeer c.self.inside.limits.window fed rest journal given taken peer =
    subst (λ (h : Held). IsPeer h.limits.window fed rest journal given taken h.peer) (sym c.self.view_is) s in
    let frame = hears-short fed rest journal peer.ear stands.hears in
    subst IsWholeBounded c.self.view_is record {
      frame = frame;
      all = sum-bounded _ _ _ _ _ _ (standing-all c.self.inside.limits.window peer.lives c.self.invariant.0.reached.stands) frame
          (few _ _ c.text.ensures.value c.text.ensures.few);
    }

pub returns-clause-waiting : goal.returns-clause-waiting
returns-clause-waiting c fed journal given taken head payload w =
    let peer = c.self.inside.peer in
    let waits : WaitsIn c.self.inside.limits.window fed journal given taken head payload peer =
    subst (λ (h : Held). WaitsIn h.limits.window fed journal given taken head payload h.peer) (sym c.self.view_is) w in
    let frame = waits-short c.self.inside.limits.window fed journal given taken head payload peer.ear peer.lives waits.waits in
    subst IsWholeBounded c.self.view_is record {
      frame = frame;
      all = sum-bounded _ _ _ _ _ _ (standing-all c.self.inside.limits.window peer.lives c.self.invariant.0.reached.stands) frame
          (few _ _ c.text.ensures.value c.text.ensures.few);
    }
