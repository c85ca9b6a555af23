-- A new session is upright once its greeting is given.
use Rattle.std.proofs.Common.{◌≡◌, ℕ, true, false, List, [], ◌∷◌, refl, ◌∙◌, subst, sym}
use Rattle.beep_management.specs.beep_frame.specs.declared.kind.Kind.{Kind}
use Rattle.beep_lawful.specs.declared.terms.Terms.{Terms}
use Rattle.beep_management.specs.beep_asked.specs.Kept.{implied_request}
use Rattle.beep_management.specs.beep_channel.specs.Held.{Live}
use Rattle.beep_management.specs.beep_decide.specs.Numbers.{other_role}
use Rattle.beep_management.specs.beep_journal.specs.declared.role.Role.{Role}
use Rattle.beep_management.specs.Managed.{Managed}
use Rattle.beep_upright.specs.Upright.{MayBegin, AreReady}

none-begin : (role : Role) (channels : List Live) → channels ≡ [] → MayBegin role [] channels
none-begin role channels none = subst (λ (l : List Live). MayBegin role [] l) (sym none) (record { free = refl; apart = tt })

pub new-ready : (terms : Terms) (asks : ℕ → ℕ) (m : Managed) → m.mine.requests ≡ implied_request ∷ [] → m.acts.requests ≡ [] → m.theirs.requests ≡ implied_request ∷ [] → m.answers ≡ []
    → m.starting ≡ [] → m.granted ≡ [] → AreReady terms [] (Kind.Rpy ∷ []) asks m
new-ready terms asks m mine acts theirs answers starting granted = record {
  idle = refl;
  greets = λ none. refl;
  starting = none-begin terms.role m.starting starting;
  granted = none-begin (other_role terms.role) m.granted granted;
  order = (refl, tt);
  acts = rw acts tt;
  unstarted = λ n waits. absurd (let g : false ≡ true = sym (rw acts refl) ∙ waits in cc);
  closing = λ n above waits. absurd (let g : false ≡ true = sym (rw (mine, acts) refl) ∙ waits in cc);
  leaving = λ leaves. absurd (let g : false ≡ true = sym (rw (mine, acts) refl) ∙ leaves in cc);
  theirs = rw (theirs, answers) (record { quiet = λ rpy. tt; still = λ rpy n above closes. cc }, tt);
}
