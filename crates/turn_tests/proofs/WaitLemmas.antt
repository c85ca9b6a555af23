-- Where an end's link was read, turn on turn.
use Rattle.std.proofs.Common.{◌≡◌, sym, subst, ℕ, List, Option, ◌++◌}
use Rattle.beep_wires.specs.Links.{Link, SameBeside}
use Rattle.beep_wires.specs.Log.{Entry}
use Rattle.beep_link.specs.Causes.{ReadsWhere, WhereKnown, WithText}
use Rattle.turn_tests.proofs.SharedLemmas.{beside}

-- an end stands for a log, where it is known, and for some text
abbrev pub Stood : (List ℕ → List Entry → Type 0) → Option (List Entry) → Type 0
Stood Stands log = (text : List ℕ) × WhereKnown (Stands text) log

module _ (old new : ℕ → Link) (at link : ℕ) (is : at ≡ link) (Old : List ℕ → List Entry → Type 0) where
  -- it stands after a turn of it
  pub stood-on : (New : List ℕ → List Entry → Type 0) (mid now : Option (List ℕ))
      → ((own : List ℕ) → WhereKnown (Old own) (old at).log → WithText mid now (λ more. WhereKnown (New (own ++ more)) (new at).log))
      → Stood Old (old link).log → Stood New (new link).log
  stood-on New mid now turns =
      subst (λ (it : ℕ). Stood Old (old it).log → Stood New (new it).log) is (λ s. let told = turns s.0 s.1 in (s.0 ++ told.0, told.2))

  -- so does what holds where it was read
  pub waits-on : (P : List Entry → Type 0)
      → ((own : List ℕ) → WhereKnown (Old own) (old at).log → WhereKnown (ReadsWhere P) (old at).log → WhereKnown (ReadsWhere P) (new at).log)
      → Stood Old (old link).log → WhereKnown (ReadsWhere P) (old link).log → WhereKnown (ReadsWhere P) (new link).log
  waits-on P turns =
      subst (λ (it : ℕ). Stood Old (old it).log → WhereKnown (ReadsWhere P) (old it).log → WhereKnown (ReadsWhere P) (new it).log) is (λ s w. turns s.0 s.1 w)

  -- both stay over a turn of another
  pub stood-beside : (here : ℕ) → (here ≡ link → ⊥) → SameBeside at old new → Stood Old (old here).log → Stood Old (new here).log
  stood-beside here apart same = subst (λ (it : Link). Stood Old it.log) (sym (beside old new at link here is apart same))

  pub waits-beside : (P : List Entry → Type 0) (here : ℕ) → (here ≡ link → ⊥) → SameBeside at old new → WhereKnown (ReadsWhere P) (old here).log → WhereKnown (ReadsWhere P) (new here).log
  waits-beside P here apart same = subst (λ (it : Link). WhereKnown (ReadsWhere P) it.log) (sym (beside old new at link here is apart same))
