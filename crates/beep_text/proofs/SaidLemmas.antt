-- What a body says as a function is what it says.
use Rattle.std.proofs.Common.{◌≡◌, ◌↔◌, ℕ, List, Option, Some, None, refl, sym, ap}
use Rattle.beep_text.specs.Tree.{Tree}
use Rattle.beep_text.specs.Elements.{IsBody}
use Rattle.beep_text.specs.Machine.{State, start, run}
use Rattle.beep_text.specs.Said.{element_in, element_said}
use Rattle.beep_text.proofs.ReadLemmas.{read_value}
use Rattle.beep_text.proofs.RunLemmas.{body-run}

in_state : (body : List ℕ) (e : Tree) (o : Option State) → run (Some start) body ≡ o → element_in o ≡ Some e → IsBody body e
in_state body e None goes is = absurd (cc is)
in_state body e (Some s) goes is = read_value body s e goes (sym is)

said_body : (body : List ℕ) (e : Tree) → element_said body ≡ Some e → IsBody body e
unfolding element_said
said_body body e is = in_state body e (run (Some start) body) refl is

body_said : (body : List ℕ) (e : Tree) → IsBody body e → element_said body ≡ Some e
unfolding element_said
body_said body e is = let goes = body-run body e is in ap element_in goes.2

pub said-body : (body : List ℕ) (e : Tree) → (element_said body ≡ Some e) ↔ IsBody body e
said-body body e = (said_body body e, body_said body e)
