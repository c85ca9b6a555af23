-- A message of a reply is given by the peer, for each journal for which the session stood.
use Rattle.std.proofs.Common.{◌≡◌, ℕ, List, false, ap, sym, subst}
use Rattle.std.specs.Prelude.{OnOk}
use Rattle.beep_giving.specs.beep_history.specs.Journal.{Item}
use Rattle.beep_giving.specs.beep_standing.specs.Standing.{Marks}
use Rattle.beep_giving.specs.beep_peer.specs.Peering.{IsPeer, IsGoing, is_over, zero_waits}
use Rattle.beep_giving.specs.Giving.{GivesMessage}
use Rattle.beep_session.specs.Session.{Held}
use Rattle.beep_session.proofs.ActLemmas.{going-now, held-now}
use Rattle.beep_session.proofs.GiveLemmas.{given-reached, session-gives}
use Rattle.beep_giving.specs.beep_upright.specs.Upright.{IsUpright}
use Rattle.beep_session.specs.Lawfully.{terms_of}
use Rattle.beep_session.proofs.session.Session.give_reply.Goals as goal

-- some journal is one for which the peer stood
going : (c : goal.After-give_reply) → IsGoing c.self.inside.limits.window c.self.inside.peer
going c =
    going-now c.self.inside.limits.window c.self.inside.peer c.self.invariant.0.reached
    (subst (λ (h : Held). is_over h.peer ≡ false) (sym c.self.view_is) c.requires.open.going)
    (subst (λ (h : Held). zero_waits h.peer ≡ false) (sym c.self.view_is) c.requires.open.settled)

pub invariant_of-self : goal.invariant_of-self
invariant_of-self c = (
  record {
    limits = c.self.invariant.0.limits;
    offers = c.self.invariant.0.offers;
    reached = given-reached c.args.n c.args.kind c.args.octets.now c.self.inside.limits.window c.self.inside.peer c.give_reply.new.peer (going c)
        c.give_reply.result (c.give_reply.ensures.ok c.self.inside.limits.window) c.give_reply.ensures.err;
  },
  c.self.invariant.1,
)

pub returns-clause-ok : goal.returns-clause-ok
returns-clause-ok c =
    session-gives c.args.n c.args.kind c.args.octets.now c.args.self.now _ c.give_reply.result
    (subst (λ (h : Held). (fed rest : List ℕ) (journal : List Item) (given taken : Marks) → IsPeer h.limits.window fed rest journal given taken h.peer
    → OnOk c.give_reply.result (GivesMessage c.args.n h.limits.window fed rest journal given taken c.args.kind c.args.octets.now c.give_reply.new.peer))
    c.self.view_is (c.give_reply.ensures.ok c.self.inside.limits.window))
    (subst (λ (h : Held). c.give_reply.new.peer.management ≡ h.peer.management) c.self.view_is c.give_reply.ensures.same.1)
    (ap (λ (h : Held). record h { peer = c.give_reply.new.peer }) c.self.view_is)

pub returns-clause-owes : goal.returns-clause-owes
returns-clause-owes c answers = c.give_reply.ensures.owes (held-now c.self.inside.limits.window c.self.inside.peer (going c)) answers

pub returns-clause-upright : goal.returns-clause-upright
returns-clause-upright c =
    subst (λ (h : Held). (fed rest : List ℕ) (journal : List Item) (given taken : Marks) → IsPeer h.limits.window fed rest journal given taken h.peer
    → IsUpright (terms_of h) journal h.peer.lives h.peer.management → IsUpright (terms_of h) journal c.give_reply.new.peer.lives c.give_reply.new.peer.management) c.self.view_is
    (λ fed rest journal given taken s u. c.give_reply.ensures.upright _ fed rest journal given taken s u)
