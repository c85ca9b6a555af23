-- The lives that requests name, over the moments of channel zero.
use Rattle.std.proofs.Common.{◌≡◌, ℕ, ◌<◌, ◌≤◌, ◌==◌, nat_lt, Bool, true, false, not, ◌&&◌, List, [], ◌∷◌, length, Option, Some, None, refl, sym, ap, ◌∙◌, arith, subst}
use Rattle.std.proofs.lemmas.Bool.Decides.{nat_tests}
use Rattle.beep_standing.specs.beep_history.specs.declared.journal.Side.{Side}
use Rattle.beep_standing.specs.beep_mgmt.specs.Form.{Form, greeting, start, chosen, close, okay, fault}
use Rattle.beep_standing.specs.beep_journal.specs.Lives.{Event, start_granted, close_granted, lives, is_live, life_named}
use Rattle.beep_standing.specs.beep_journal.proofs.MomentLemmas.{equal-number, apart-less, and-false, named-within, other-start, other-start-lives, again-lives, again-live, start-lives, other-close, close-live, stale-live}
use Rattle.beep_decide.specs.Asks.{is_close_of}
use Rattle.beep_asked.specs.Kept.{Kept, clear}
use Rattle.beep_asked.specs.Asked.{names_live, names_life, AreAsked}

-- ---- numbers and tests

pub first-true : (a b : Bool) → (a && b) ≡ true → a ≡ true
first-true true b e = refl
first-true false b e = cc

pub second-true : (a b : Bool) → (a && b) ≡ true → b ≡ true
second-true true b e = e
second-true false b e = cc

same-turned : (a b : ℕ) → (a == b) ≡ true → (b == a) ≡ true
same-turned a b e = grind (arith, nat_tests)

apart-turned : (a b : ℕ) → (a == b) ≡ false → (b == a) ≡ false
apart-turned a b e = grind (arith, nat_tests)

-- ---- where each close names as before

names-same : (side : Side) (p : ℕ) (es later : List Event) → ((n : ℕ) → names_live n side p later ≡ names_live n side p es)
    → (form : Option Form) → names_life side p form later ≡ names_life side p form es
names-same side p es later same None = refl
names-same side p es later same (Some (greeting features localize profiles)) = refl
names-same side p es later same (Some (start number server profiles)) = refl
names-same side p es later same (Some (chosen profile)) = refl
names-same side p es later same (Some (close number code note)) = ap (λ (b : Bool). nat_lt 0 number && b) (same number)
names-same side p es later same (Some okay) = refl
names-same side p es later same (Some (fault code note)) = refl

-- the requests at positions below a bound stay
pub asked-stays : (side : Side) (es later : List Event) (bound : ℕ) → ((n p : ℕ) → p < bound → names_live n side p later ≡ names_live n side p es)
    → (requests : List Kept) (forms : List (Option Form)) → length forms ≤ bound → AreAsked side es requests forms → AreAsked side later requests forms
asked-stays side es later bound same [] forms within a = tt
asked-stays side es later bound same (kept ∷ requests) [] within a = absurd a
asked-stays side es later bound same (kept ∷ requests) (form ∷ forms) within a = (
  record {
    said = a.0.said;
    implied = a.0.implied;
    names = a.0.names ∙ sym (names-same side (length forms) es later (λ n. same n (length forms) (omega (arith, within))) form);
  },
  asked-stays side es later bound same requests forms (omega (arith, within)) a.1,
)

-- the same at each position
pub asked-same : (side : Side) (es later : List Event) → ((n p : ℕ) → names_live n side p later ≡ names_live n side p es)
    → (requests : List Kept) (forms : List (Option Form)) → AreAsked side es requests forms → AreAsked side later requests forms
asked-same side es later same requests forms a = asked-stays side es later (length forms) (λ n p below. same n p) requests forms (omega arith) a

-- ---- a start

module _ (m : ℕ) (es : List Event) where
  -- of a number that is live
  pub again-names : is_live m es ≡ true → (side : Side) (n p : ℕ) → names_live n side p (start_granted m ∷ es) ≡ names_live n side p es
  again-names live side n p =
      ap (λ (b : Bool). b && life_named n side p es == lives n (start_granted m ∷ es)) (again-live m es n live)
      ∙ ap (λ (k : ℕ). is_live n es && life_named n side p es == k) (again-lives m es n live)

  -- of one that isn't: no close has named the life that begins
  pub start-names : is_live m es ≡ false → (side : Side) (n p : ℕ) → names_live n side p (start_granted m ∷ es) ≡ names_live n side p es
  start-names dead side n p = of (m == n) refl
    where
      none-yet : names_live m side p (start_granted m ∷ es) ≡ false
      none-yet =
          ap (λ (b : Bool). is_live m (start_granted m ∷ es) && b)
          (apart-less (life_named m side p es) (lives m (start_granted m ∷ es))
          (let l = start-lives m es dead in let w = named-within m side p es in omega (arith, l, w)))
          ∙ and-false (is_live m (start_granted m ∷ es))

      none-before : names_live m side p es ≡ false
      none-before = ap (λ (b : Bool). b && life_named m side p es == lives m es) dead

      of : (b : Bool) → (m == n) ≡ b → names_live n side p (start_granted m ∷ es) ≡ names_live n side p es
      of false e =
          ap (λ (b : Bool). b && life_named n side p es == lives n (start_granted m ∷ es)) (other-start m es n e)
          ∙ ap (λ (k : ℕ). is_live n es && life_named n side p es == k) (other-start-lives m es n e)
      of true e =
          subst (λ (k : ℕ). names_live k side p (start_granted m ∷ es) ≡ names_live k side p es) (equal-number m n e) (none-yet ∙ sym none-before)

-- ---- a close

module _ (m : ℕ) (by : Side) (q : ℕ) (es : List Event) where
  -- that names no live life
  pub stale-names : names_live m by q es ≡ false → (side : Side) (n p : ℕ) → names_live n side p (close_granted by q m ∷ es) ≡ names_live n side p es
  stale-names stale side n p = ap (λ (b : Bool). b && life_named n side p es == lives n es) (stale-live m by q es n stale)

  module _ (ends : names_live m by q es ≡ true) where
    ended-names : (side : Side) (p : ℕ) → names_live m side p (close_granted by q m ∷ es) ≡ false
    ended-names side p =
        ap (λ (b : Bool). b && life_named m side p es == lives m es)
        (close-live m by q es (second-true (is_live m es) (life_named m by q es == lives m es) ends))

    close-names : (side : Side) (n p : ℕ) (b : Bool) → (n == m) ≡ b
        → (nat_lt 0 n && names_live n side p (close_granted by q m ∷ es)) ≡ ((nat_lt 0 n && names_live n side p es) && not b)
    close-names side n p true e =
        ap (λ (b : Bool). nat_lt 0 n && b)
        (subst (λ (k : ℕ). names_live k side p (close_granted by q m ∷ es) ≡ false) (equal-number m n (same-turned n m e)) (ended-names side p))
        ∙ and-false (nat_lt 0 n) ∙ sym (and-false (nat_lt 0 n && names_live n side p es))
    close-names side n p false e =
        ap (λ (b : Bool). nat_lt 0 n && (b && life_named n side p es == lives n es)) (other-close m by q es n (apart-turned n m e))
        ∙ sym (and-true (nat_lt 0 n && names_live n side p es))
      where
        and-true : (b : Bool) → (b && true) ≡ b
        and-true true = refl
        and-true false = refl

    cleared-names : (side : Side) (p : ℕ) (form : Option Form)
        → names_life side p form (close_granted by q m ∷ es) ≡ (names_life side p form es && not (is_close_of m form))
    cleared-names side p None = refl
    cleared-names side p (Some (greeting features localize profiles)) = refl
    cleared-names side p (Some (start number server profiles)) = refl
    cleared-names side p (Some (chosen profile)) = refl
    cleared-names side p (Some (close number code note)) = close-names side number p (number == m) refl
    cleared-names side p (Some okay) = refl
    cleared-names side p (Some (fault code note)) = refl

    -- the tests of its number are cleared
    pub asked-cleared : (side : Side) (requests : List Kept) (forms : List (Option Form)) → AreAsked side es requests forms
        → AreAsked side (close_granted by q m ∷ es) (clear m requests) forms
    asked-cleared side [] forms a = tt
    asked-cleared side (kept ∷ requests) [] a = absurd a
    asked-cleared side (kept ∷ requests) (form ∷ forms) a = (
      record {
        said = a.0.said;
        implied = a.0.implied;
        names = ap (λ (b : Bool). b && not (is_close_of m kept.said)) a.0.names
            ∙ ap (λ (o : Option Form). names_life side (length forms) form es && not (is_close_of m o)) a.0.said
            ∙ sym (cleared-names side (length forms) form);
      },
      asked-cleared side requests forms a.1,
    )
