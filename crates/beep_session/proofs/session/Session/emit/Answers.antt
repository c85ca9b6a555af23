-- What goes out is what the peer says, and the session's parts stand for the journal with it.
use Rattle.std.proofs.Common.{◌≡◌, ℕ, List, false, sym, subst, arith, ◌∙◌}
use Rattle.beep_giving.specs.beep_peer.specs.Peering.{is_over, zero_waits}
use Rattle.beep_session.specs.Session.{Held}
use Rattle.beep_session.proofs.ActLemmas.{going-now}
use Rattle.beep_session.proofs.EmitLemmas.{spoken-reached}
use Rattle.beep_giving.specs.beep_history.specs.Journal.{Item}
use Rattle.beep_giving.specs.beep_standing.specs.Standing.{Marks}
use Rattle.beep_giving.specs.beep_peer.specs.Lawfully.{SpeaksLawfully}
use Rattle.beep_session.specs.Lawfully.{terms_of, IsLawfulSession}
use Rattle.beep_session.proofs.LawfulLemmas.{not-released}
use Rattle.beep_giving.specs.beep_upright.specs.Frames.{AreFrames, IsFramed}
use Rattle.beep_session.proofs.session.Session.emit.Goals as goal

pub invariant_of-self : goal.invariant_of-self
invariant_of-self c = (
  record {
    limits = c.self.invariant.0.limits;
    offers = c.self.invariant.0.offers;
    reached = spoken-reached c.self.inside.limits.window _ c.self.inside.peer c.speak.new.peer c.speak.result _ _
        (going-now c.self.inside.limits.window c.self.inside.peer c.self.invariant.0.reached
        (subst (λ (h : Held). is_over h.peer ≡ false) (sym c.self.view_is) (sym c.is_over.ensures ∙ c.if-is_over.false))
        (subst (λ (h : Held). zero_waits h.peer ≡ false) (sym c.self.view_is) c.requires.settled))
        (λ fed rest journal given taken s. c.speak.ensures.speaks c.self.inside.limits.window fed rest journal given taken s);
  },
  omega (arith, c.self.invariant.1, c.speak.ensures.kept),
)

pub returns-clause-lawful : goal.returns-clause-lawful
returns-clause-lawful c =
    subst (λ (h : Held). (fed rest : List ℕ) (journal : List Item) (given taken : Marks) → is_over h.peer ≡ false → IsLawfulSession h fed rest journal given taken
    → SpeaksLawfully c.speak.result (terms_of h) fed rest journal given taken h.peer c.speak.new.peer c.args.out.now.octets c.speak.new.out.octets) c.self.view_is
    (λ fed rest journal given taken going s. c.speak.ensures.lawful _ fed rest journal given taken (omega (arith, c.min-most.ensures)) (let most = c.self.invariant.0.limits.most in omega (arith, most)) (not-released c.self.inside.peer going) s)

pub returns-clause-framed : goal.returns-clause-framed
returns-clause-framed c =
    subst (λ (h : Held). (fed rest : List ℕ) (journal : List Item) (given taken : Marks) → is_over h.peer ≡ false → IsLawfulSession h fed rest journal given taken
    → AreFrames journal → IsFramed c.speak.result) c.self.view_is
    (λ fed rest journal given taken going s are.
    c.speak.ensures.framed _ fed rest journal given taken (let most = c.self.invariant.0.limits.most in omega (arith, most, c.min-most.ensures))
    (let greatest = c.self.invariant.0.limits.greatest in omega (arith, greatest)) s are)
