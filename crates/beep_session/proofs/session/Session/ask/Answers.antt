-- A request is given by the peer, for each journal for which the session stood.
use Rattle.std.proofs.Common.{◌≡◌, ℕ, List, false, ap, sym, subst}
use Rattle.std.specs.Prelude.{OnOk, IfOk}
use Rattle.beep_giving.specs.beep_frame.specs.declared.kind.Kind.{Kind}
use Rattle.beep_giving.specs.beep_frame.specs.Frame.{is_msg}
use Rattle.beep_giving.specs.beep_frame.specs.Modulo.{modulo_2_64}
use Rattle.beep_giving.specs.beep_history.specs.Journal.{Item}
use Rattle.beep_giving.specs.beep_channel.specs.Stands.{ends_of}
use Rattle.beep_giving.specs.beep_standing.specs.Standing.{Marks}
use Rattle.beep_giving.specs.beep_peer.specs.Peering.{IsPeer, IsGoing, is_over, zero_waits}
use Rattle.beep_giving.specs.Giving.{GivesMessage}
use Rattle.beep_session.specs.Session.{Held}
use Rattle.beep_session.proofs.ActLemmas.{going-now}
use Rattle.beep_session.proofs.GiveLemmas.{given-reached, session-gives}
use Rattle.beep_giving.specs.beep_upright.specs.Upright.{IsUpright}
use Rattle.beep_session.specs.Lawfully.{terms_of}
use Rattle.beep_session.specs.Channels.{is_closing}
use Rattle.beep_session.proofs.session.Session.ask.Goals as goal

-- some journal is one for which the peer stood
going : (c : goal.After-ask) → IsGoing c.self.inside.limits.window c.self.inside.peer
going c =
    going-now c.self.inside.limits.window c.self.inside.peer c.self.invariant.0.reached
    (subst (λ (h : Held). is_over h.peer ≡ false) (sym c.self.view_is) c.requires.open.going)
    (subst (λ (h : Held). zero_waits h.peer ≡ false) (sym c.self.view_is) c.requires.open.settled)

pub invariant_of-self : goal.invariant_of-self
invariant_of-self c = (
  record {
    limits = c.self.invariant.0.limits;
    offers = c.self.invariant.0.offers;
    reached = given-reached c.args.n Kind.Msg c.args.octets.now c.self.inside.limits.window c.self.inside.peer c.ask.new.peer (going c) c.ask.result
        (c.ask.ensures.ok c.self.inside.limits.window) c.ask.ensures.err;
  },
  c.self.invariant.1,
)

pub returns-clause-ok : goal.returns-clause-ok
returns-clause-ok c =
    session-gives c.args.n Kind.Msg c.args.octets.now c.args.self.now _ c.ask.result
    (subst (λ (h : Held). (fed rest : List ℕ) (journal : List Item) (given taken : Marks) → IsPeer h.limits.window fed rest journal given taken h.peer
    → OnOk c.ask.result (GivesMessage c.args.n h.limits.window fed rest journal given taken Kind.Msg c.args.octets.now c.ask.new.peer)) c.self.view_is
    (c.ask.ensures.ok c.self.inside.limits.window))
    (subst (λ (h : Held). c.ask.new.peer.management ≡ h.peer.management) c.self.view_is c.ask.ensures.same.1)
    (ap (λ (h : Held). record h { peer = c.ask.new.peer }) c.self.view_is)

pub returns-clause-value : goal.returns-clause-value
returns-clause-value c =
    subst (λ (h : Held). (fed rest : List ℕ) (journal : List Item) (given taken : Marks) → IsPeer h.limits.window fed rest journal given taken h.peer
    → IfOk c.ask.result (λ position. position ≡ modulo_2_64 (ends_of is_msg (given c.args.n)))) c.self.view_is
    (c.ask.ensures.value c.self.inside.limits.window)

pub returns-clause-upright : goal.returns-clause-upright
returns-clause-upright c =
    subst (λ (h : Held). (fed rest : List ℕ) (journal : List Item) (given taken : Marks) → is_closing c.args.n h ≡ false → IsPeer h.limits.window fed rest journal given taken h.peer
    → IsUpright (terms_of h) journal h.peer.lives h.peer.management → IsUpright (terms_of h) journal c.ask.new.peer.lives c.ask.new.peer.management) c.self.view_is
    (λ fed rest journal given taken unclosed s u. c.ask.ensures.upright _ fed rest journal given taken s unclosed u)
