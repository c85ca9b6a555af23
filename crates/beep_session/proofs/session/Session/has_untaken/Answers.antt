-- What isn't all taken is untaken.
use Rattle.std.proofs.Common.{◌≡◌, ℕ, Bool, true, false, not, ap, refl, sym, subst}
use Rattle.beep_session.specs.Session.{Held}
use Rattle.beep_session.specs.Looks.{IsTakenAt}
use Rattle.beep_session.proofs.session.Session.has_untaken.Goals as goal

not-untaken : (b : Bool) → not b ≡ false → b ≡ true
not-untaken true none = refl
not-untaken false none = absurd (cc none)

pub returns : goal.returns
returns c = (
  λ none. subst (λ (h : Held). (number : ℕ) → IsTakenAt number h.peer.lives) c.self.view_is
      (c.are_taken.ensures.0 (not-untaken c.are_taken.result none)),
  λ all. ap not (c.are_taken.ensures.1 (subst (λ (h : Held). (number : ℕ) → IsTakenAt number h.peer.lives) (sym c.self.view_is) all)),
)
