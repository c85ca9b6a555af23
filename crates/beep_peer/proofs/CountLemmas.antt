-- Two lists of channels that have the same numbers are equally long.
use Rattle.std.proofs.Common.{◌≡◌, ℕ, ◌+◌, ◌<◌, ◌≤◌, ◌==◌, nat_lt, Bool, true, false, if◌then◌else◌, List, [], ◌∷◌, length, Option, None, Some, refl, sym, ap, ◌∙◌, arith, subst}
use Rattle.std.proofs.lemmas.Bool.{eqb-true, eq-eqb, ltb-true, ltb-false}
use Rattle.std.specs.Prelude.{is_some}
use Rattle.beep_upright.specs.beep_channel.specs.Held.{Live}
use Rattle.beep_upright.specs.beep_lives.specs.Lives.{live_at, IsAscendingFrom}
use Rattle.beep_upright.specs.beep_lives.proofs.ListLemmas.{below-none}

own-live : (c : Live) (cs : List Live) → is_some (live_at c.held.number (c ∷ cs)) ≡ true
own-live c cs = rw (eq-eqb c.held.number c.held.number refl) refl

later-live : (n : ℕ) (c : Live) (cs : List Live) → c.held.number < n → live_at n (c ∷ cs) ≡ live_at n cs
later-live n c cs below = of (c.held.number == n) refl
  where
    of : (b : Bool) → (c.held.number == n) ≡ b → (if b then Some c else live_at n cs) ≡ live_at n cs
    of true e = absurd (let same = eqb-true c.held.number n e in omega (arith, same, below))
    of false e = refl

lower-apart : (x y : Live) (xs ys : List Live) → x.held.number < y.held.number → IsAscendingFrom (y.held.number + 1) ys
    → is_some (live_at x.held.number (x ∷ xs)) ≡ is_some (live_at x.held.number (y ∷ ys)) → ⊥
lower-apart x y xs ys lower asc same =
    let none : live_at x.held.number (y ∷ ys) ≡ None = below-none x.held.number y.held.number (y ∷ ys) lower (omega arith, asc) in
    let e : true ≡ false = sym (own-live x xs) ∙ same ∙ ap (λ (o : Option Live). is_some o) none in cc

-- the first channels have one number, and the others are equally many
same-heads : (least : ℕ) (x y : Live) (xs ys : List Live) → IsAscendingFrom least (x ∷ xs) → IsAscendingFrom least (y ∷ ys)
    → ((n : ℕ) → least ≤ n → is_some (live_at n (x ∷ xs)) ≡ is_some (live_at n (y ∷ ys)))
    → (x.held.number ≡ y.held.number → length xs ≡ length ys) → length (x ∷ xs) ≡ length (y ∷ ys)
same-heads least x y xs ys a b same tail = of (nat_lt x.held.number y.held.number) refl (nat_lt y.held.number x.held.number) refl
  where
    of : (p : Bool) → nat_lt x.held.number y.held.number ≡ p → (q : Bool) → nat_lt y.held.number x.held.number ≡ q → length (x ∷ xs) ≡ length (y ∷ ys)
    of true e q f = absurd (lower-apart x y xs ys (ltb-true x.held.number y.held.number e) b.1 (same x.held.number a.0))
    of false e true f = absurd (lower-apart y x ys xs (ltb-true y.held.number x.held.number f) a.1 (sym (same y.held.number b.0)))
    of false e false f =
        let x-y = ltb-false x.held.number y.held.number e in
        let y-x = ltb-false y.held.number x.held.number f in
        let rest = tail (omega (arith, x-y, y-x)) in omega (arith, rest)

same-from : (least : ℕ) (xs ys : List Live) → IsAscendingFrom least xs → IsAscendingFrom least ys
    → ((n : ℕ) → least ≤ n → is_some (live_at n xs) ≡ is_some (live_at n ys)) → length xs ≡ length ys
same-from least [] [] a b same = refl
same-from least [] (y ∷ ys) a b same =
    absurd (let e : false ≡ true = same y.held.number b.0 ∙ own-live y ys in cc)
same-from least (x ∷ xs) [] a b same =
    absurd (let e : true ≡ false = sym (own-live x xs) ∙ same x.held.number a.0 in cc)
same-from least (x ∷ xs) (y ∷ ys) a b same =
    same-heads least x y xs ys a b same
    (λ e. same-from (x.held.number + 1) xs ys a.1 (subst (λ (n : ℕ). IsAscendingFrom (n + 1) ys) (sym e) b.1)
    (λ n above.
    ap (λ (o : Option Live). is_some o) (sym (later-live n x xs (omega (arith, above))))
    ∙ same n (omega (arith, above, a.0))
    ∙ ap (λ (o : Option Live). is_some o) (later-live n y ys (omega (arith, above, e)))))

-- they are, where each number is in both or in none
pub same-count : (old new : List Live) → IsAscendingFrom 0 old → IsAscendingFrom 0 new
    → ((n : ℕ) → is_some (live_at n new) ≡ is_some (live_at n old)) → length new ≡ length old
same-count old new a b same = same-from 0 new old b a (λ n above. same n)
