-- What a grant leaves of requests: what each says, and whether it is the implied one, stay.
use Rattle.std.proofs.Common.{◌≡◌, ℕ, Bool, true, false, if◌then◌else◌, List, [], ◌∷◌, ◌++◌, length, map, reverse, Option, Some, None, refl, sym, ap, ◌∙◌, subst}
use Rattle.std.proofs.lemmas.List.{length-map}
use Rattle.beep_asked.specs.beep_frame.specs.declared.kind.Kind.{Kind}
use Rattle.beep_asked.specs.beep_frame.specs.Frame.{same_kind}
use Rattle.beep_asked.specs.beep_mgmt.specs.Form.{Form, greeting, start, chosen, close, okay, fault}
use Rattle.beep_asked.specs.beep_journal.specs.Zero.{has_form}
use Rattle.beep_spoken.specs.Spoken.{Spoken}
use Rattle.beep_asked.specs.Kept.{Kept, fits, clear_one, cleared_by, after_grant}
use Rattle.beep_management.specs.Managed.{number_started, numbers_started, numbers_granted}
use Rattle.beep_management.specs.Manages.{AreActs, AllFit}
use Rattle.beep_management.proofs.ListLemmas.{reverse-map}

-- ---- a change that leaves what each says

module _ (f : Kept → Kept) (says : (k : Kept) → (f k).said ≡ k.said) (stays : (k : Kept) → (f k).implied ≡ k.implied) where
  acts-map : (ms : List Spoken) (ks : List Kept) → AreActs ms ks → AreActs ms (map f ks)
  acts-map [] [] a = tt
  acts-map [] (k ∷ ks) a = absurd a
  acts-map (m ∷ ms) [] a = absurd a
  acts-map (m ∷ ms) (k ∷ ks) a = (says k ∙ a.0, stays k ∙ a.1, acts-map ms ks a.2)

  same-fit : (kind : Kind) (reply : Option Form) (k : Kept) → fits kind reply (f k) ≡ fits kind reply k
  same-fit kind reply k =
      ap (λ (b : Bool). has_form kind (if b then 0 else 1) (f k).said reply) (stays k)
      ∙ ap (λ (o : Option Form). has_form kind (if k.implied then 0 else 1) o reply) (says k)

  fit-map : (rs : List Spoken) (ks : List Kept) → AllFit rs ks → AllFit rs (map f ks)
  fit-map [] [] a = tt
  fit-map [] (k ∷ ks) a = absurd a
  fit-map (r ∷ rs) [] a = absurd a
  fit-map (r ∷ rs) (k ∷ ks) a = (same-fit r.kind (Some r.form) k ∙ a.0, fit-map rs ks a.1)

  started-map : (ks : List Kept) → numbers_started (map f ks) ≡ numbers_started ks
  started-map [] = refl
  started-map (k ∷ ks) =
      ap (λ (o : Option Form). number_started o ++ numbers_started (map f ks)) (says k)
      ∙ ap (λ (ns : List ℕ). number_started k.said ++ ns) (started-map ks)

  granted-map : (rs : List Spoken) (ks : List Kept) → numbers_granted rs (map f ks) ≡ numbers_granted rs ks
  granted-map [] [] = refl
  granted-map [] (k ∷ ks) = refl
  granted-map (r ∷ rs) [] = refl
  granted-map (r ∷ rs) (k ∷ ks) = of (same_kind Kind.Rpy r.kind) (granted-map rs ks)
    where
      of : (b : Bool) → numbers_granted rs (map f ks) ≡ numbers_granted rs ks
          → (if b then number_started (f k).said ++ numbers_granted rs (map f ks) else numbers_granted rs (map f ks))
          ≡ (if b then number_started k.said ++ numbers_granted rs ks else numbers_granted rs ks)
      of true e =
          ap (λ (o : Option Form). number_started o ++ numbers_granted rs (map f ks)) (says k)
          ∙ ap (λ (ns : List ℕ). number_started k.said ++ ns) e
      of false e = e

-- ---- a grant is such a change

-- what is said of requests, the oldest first, stays
pub record SaysSame (old new : List Kept) : Type 0 where
  pub acts : (ms : List Spoken) → AreActs ms (reverse old) → AreActs ms (reverse new)
  pub fit : (rs : List Spoken) → AllFit rs (reverse old) → AllFit rs (reverse new)
  pub started : numbers_started (reverse new) ≡ numbers_started (reverse old)
  pub granted : (rs : List Spoken) → numbers_granted rs (reverse new) ≡ numbers_granted rs (reverse old)
  pub count : length new ≡ length old

all-same : (ks : List Kept) → SaysSame ks ks
all-same ks = record { acts = λ ms a. a; fit = λ rs a. a; started = refl; granted = λ rs. refl; count = refl }

one-cleared : (number : ℕ) (ks : List Kept) → SaysSame ks (map (clear_one number) ks)
one-cleared number ks = record {
  acts = λ ms a. subst (λ (l : List Kept). AreActs ms l) (sym turned) (acts-map (clear_one number) says stays ms (reverse ks) a);
  fit = λ rs a. subst (λ (l : List Kept). AllFit rs l) (sym turned) (fit-map (clear_one number) says stays rs (reverse ks) a);
  started = ap numbers_started turned ∙ started-map (clear_one number) says stays (reverse ks);
  granted = λ rs. ap (numbers_granted rs) turned ∙ granted-map (clear_one number) says stays rs (reverse ks);
  count = length-map ks (clear_one number);
}
  where
    says : (k : Kept) → (clear_one number k).said ≡ k.said
    says k = refl

    stays : (k : Kept) → (clear_one number k).implied ≡ k.implied
    stays k = refl

    turned : reverse (map (clear_one number) ks) ≡ map (clear_one number) (reverse ks)
    turned = reverse-map (clear_one number) ks

cleared-same : (form : Option Form) (names : Bool) (ks : List Kept) → SaysSame ks (cleared_by form names ks)
cleared-same None names ks = all-same ks
cleared-same (Some (greeting features localize profiles)) names ks = all-same ks
cleared-same (Some (start number server profiles)) names ks = all-same ks
cleared-same (Some (chosen profile)) names ks = all-same ks
cleared-same (Some (close number code note)) true ks = one-cleared number ks
cleared-same (Some (close number code note)) false ks = all-same ks
cleared-same (Some okay) names ks = all-same ks
cleared-same (Some (fault code note)) names ks = all-same ks

pub granted-same : (one : Kept) (old new : List Kept) → new ≡ after_grant one old → SaysSame old new
granted-same one old new e = subst (λ (l : List Kept). SaysSame old l) (sym e) (cleared-same one.said one.names old)
