-- A part is taken by the peer, for each journal for which the session stood.
use Rattle.std.proofs.Common.{◌≡◌, ℕ, List, false, ap, sym, subst}
use Rattle.std.specs.Prelude.{IfSome}
use Rattle.beep_giving.specs.beep_history.specs.Journal.{Item}
use Rattle.beep_giving.specs.beep_standing.specs.Standing.{Marks}
use Rattle.beep_giving.specs.beep_peer.specs.Peering.{IsPeer, is_over, zero_waits}
use Rattle.beep_giving.specs.Giving.{TakesMarks}
use Rattle.beep_session.specs.Session.{Held}
use Rattle.beep_session.proofs.ActLemmas.{going-now, held-now}
use Rattle.beep_session.proofs.GiveLemmas.{taken-reached, session-takes}
use Rattle.beep_giving.specs.beep_upright.specs.Upright.{IsUpright}
use Rattle.beep_session.specs.Lawfully.{terms_of}
use Rattle.beep_session.proofs.session.Session.take.Goals as goal

pub take-requires-clause-held : goal.take-requires-clause-held
take-requires-clause-held c =
    held-now c.self.inside.limits.window c.self.inside.peer
    (going-now c.self.inside.limits.window c.self.inside.peer c.self.invariant.0.reached
    (subst (λ (h : Held). is_over h.peer ≡ false) (sym c.self.view_is) c.requires.open.going)
    (subst (λ (h : Held). zero_waits h.peer ≡ false) (sym c.self.view_is) c.requires.open.settled))

pub invariant_of-self : goal.invariant_of-self
invariant_of-self c = (
  record {
    limits = c.self.invariant.0.limits;
    offers = c.self.invariant.0.offers;
    reached = taken-reached c.args.n c.take.new.buf c.self.inside.limits.window c.self.inside.peer c.take.new.peer
        (going-now c.self.inside.limits.window c.self.inside.peer c.self.invariant.0.reached
        (subst (λ (h : Held). is_over h.peer ≡ false) (sym c.self.view_is) c.requires.open.going)
        (subst (λ (h : Held). zero_waits h.peer ≡ false) (sym c.self.view_is) c.requires.open.settled))
        c.take.result (c.take.ensures.some c.self.inside.limits.window) c.take.ensures.kept;
  },
  c.self.invariant.1,
)

pub returns-clause-some : goal.returns-clause-some
returns-clause-some c =
    session-takes c.args.n c.take.new.buf c.args.self.now _ c.take.result
    (subst (λ (h : Held). (fed rest : List ℕ) (journal : List Item) (given taken : Marks) → IsPeer h.limits.window fed rest journal given taken h.peer
    → IfSome c.take.result (λ part. TakesMarks c.args.n h.limits.window fed rest journal given taken part c.take.new.buf h.peer.management.answers c.take.new.peer)) c.self.view_is
    (c.take.ensures.some c.self.inside.limits.window))
    (ap (λ (h : Held). record h { peer = c.take.new.peer }) c.self.view_is)

pub returns-clause-upright : goal.returns-clause-upright
returns-clause-upright c =
    subst (λ (h : Held). (fed rest : List ℕ) (journal : List Item) (given taken : Marks) → IsPeer h.limits.window fed rest journal given taken h.peer
    → IsUpright (terms_of h) journal h.peer.lives h.peer.management → IsUpright (terms_of h) journal c.take.new.peer.lives c.take.new.peer.management) c.self.view_is
    (λ fed rest journal given taken s u. c.take.ensures.upright _ fed rest journal given taken s u)
