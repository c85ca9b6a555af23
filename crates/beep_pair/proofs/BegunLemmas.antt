-- A life that begins, and those that begin and end in one step, in the accounts of all lives.
use Rattle.std.proofs.Common.{◌≡◌, ◌⊎◌, inl, inr, ℕ, zero, suc, ◌+◌, ◌%◌, ◌^◌, ◌<◌, ◌≤◌, ◌==◌, nat_lt, Bool, true, false, not, ◌&&◌, ◌||◌, if◌then◌else◌, List, [], ◌∷◌, Option, Some, None, refl, sym, ap, ap₂, ◌∙◌, subst, arith}
use Rattle.std.proofs.lemmas.Bool.Decides.{nat_tests}
use Rattle.beep_two_sessions.specs.beep_frame.specs.Modulo.{modulo_2_64}
use Rattle.beep_two_sessions.specs.beep_history.specs.Marks.{Mark}
use Rattle.beep_two_sessions.specs.beep_journal.proofs.MomentLemmas.{same-number, equal-number}
use Rattle.beep_schedule.specs.declared.event.End.{End}
use Rattle.beep_report.specs.beep_tally.specs.Accounts.{stage_at, staged_at, is_before_stage, no_flow, fresh, goes_before, next_life, begun_from, with_begun, is_in, with_ended, with_each_ended, with_each_begun, lives_noted}
use Rattle.beep_report.specs.beep_tally.specs.declared.account.Flow.{Flow}
use Rattle.beep_report.specs.beep_tally.specs.declared.account.Stage.{Stage}
use Rattle.beep_report.specs.beep_tally.specs.declared.account.Account.{Account}
use Rattle.beep_pair.specs.Ends.{other_end}
use Rattle.beep_pair.specs.Totals.{flow_of, flow_from, account_at, AreInOrder, View, stage_of, IsOfLife, IsAccount, AreOfLives}
use Rattle.beep_pair.proofs.TotalLemmas.{staged-number, staged-life, staged-here, staged-there, staged-flow, stage-before, stage-live, stage-over, without, ended-lives}

-- the next life of a number begins
abbrev pub with_one : ℕ → View → View
with_one m view = record view {
  begun = λ n. if m == n then view.begun n + 1 else view.begun n;
  live = λ n. (m == n) || view.live n;
}

-- ---- a fresh account

fresh-number : (at : End) (m life : ℕ) → (fresh at m life).number ≡ m
fresh-number End.A m life = refl
fresh-number End.B m life = refl

fresh-life : (at : End) (m life : ℕ) → (fresh at m life).life ≡ life
fresh-life End.A m life = refl
fresh-life End.B m life = refl

fresh-here : (at : End) (m life : ℕ) → stage_at at (fresh at m life) ≡ Stage.Live
fresh-here End.A m life = refl
fresh-here End.B m life = refl

fresh-there : (at : End) (m life : ℕ) → stage_at (other_end at) (fresh at m life) ≡ Stage.Before
fresh-there End.A m life = refl
fresh-there End.B m life = refl

fresh-flow : (at e : End) (m life : ℕ) → flow_from e (fresh at m life) ≡ no_flow
fresh-flow End.A End.A m life = refl
fresh-flow End.A End.B m life = refl
fresh-flow End.B End.A m life = refl
fresh-flow End.B End.B m life = refl

-- ---- accounts of other numbers

-- below the numbers of a list there is no account
none-below : (m low p : ℕ) (xs : List Account) → m < low → AreInOrder low xs → account_at m p xs ≡ None
none-below m low p [] less o = refl
none-below m low zero (x ∷ xs) less o = let e : (x.number == m) ≡ false = (let h = o.0 in grind (arith, nat_tests)) in rw e (none-below m x.number zero xs (let h = o.0 in omega (arith, h, less)) o.1)
none-below m low (suc p) (x ∷ xs) less o = let e : (x.number == m) ≡ false = (let h = o.0 in grind (arith, nat_tests)) in rw e (none-below m x.number (suc p) xs (let h = o.0 in omega (arith, h, less)) o.1)

skip : (n p : ℕ) (x : Account) (xs : List Account) → (x.number == n) ≡ false → account_at n p (x ∷ xs) ≡ account_at n p xs
skip n zero x xs e = rw e refl
skip n (suc p) x xs e = rw e refl

first-of : (n : ℕ) (x : Account) (xs : List Account) → (x.number == n) ≡ true → account_at n zero (x ∷ xs) ≡ Some x
first-of n x xs e = rw e refl

next-of : (n p : ℕ) (x : Account) (xs : List Account) → (x.number == n) ≡ true → account_at n (suc p) (x ∷ xs) ≡ account_at n p xs
next-of n p x xs e = rw e refl

cons-same : (n p : ℕ) (x y : Account) (xs ys : List Account) → x.number ≡ y.number → ((q : ℕ) → account_at n q xs ≡ account_at n q ys) → (x.number == n) ≡ false
    → account_at n p (x ∷ xs) ≡ account_at n p (y ∷ ys)
cons-same n p x y xs ys is same e = skip n p x xs e ∙ same p ∙ sym (skip n p y ys (ap (λ (k : ℕ). k == n) (sym is) ∙ e))

same-head : (n p : ℕ) (x : Account) (xs ys : List Account) → ((q : ℕ) → account_at n q xs ≡ account_at n q ys) → account_at n p (x ∷ xs) ≡ account_at n p (x ∷ ys)
same-head n zero x xs ys same = of (x.number == n) refl
  where
    of : (b : Bool) → (x.number == n) ≡ b → account_at n zero (x ∷ xs) ≡ account_at n zero (x ∷ ys)
    of true e = first-of n x xs e ∙ sym (first-of n x ys e)
    of false e = skip n zero x xs e ∙ same zero ∙ sym (skip n zero x ys e)
same-head n (suc p) x xs ys same = of (x.number == n) refl
  where
    of : (b : Bool) → (x.number == n) ≡ b → account_at n (suc p) (x ∷ xs) ≡ account_at n (suc p) (x ∷ ys)
    of true e = next-of n p x xs e ∙ same p ∙ sym (next-of n p x ys e)
    of false e = skip n (suc p) x xs e ∙ same (suc p) ∙ sym (skip n (suc p) x ys e)

module _ (at : End) (m : ℕ) where
  others-stay : (n : ℕ) → (m == n) ≡ false → (life : ℕ) (xs : List Account) (p : ℕ) → account_at n p (begun_from at m life xs) ≡ account_at n p xs
  others-stay n apart life [] p = skip n p (fresh at m life) [] (ap (λ (k : ℕ). k == n) (fresh-number at m life) ∙ apart)
  others-stay n apart life (x ∷ xs) p = of (goes_before at m x) (x.number == m) refl refl (others-stay n apart (next_life m x) xs)
    where
      of : (b c : Bool) → goes_before at m x ≡ b → (x.number == m) ≡ c → ((q : ℕ) → account_at n q (begun_from at m (next_life m x) xs) ≡ account_at n q xs)
          → account_at n p (begun_from at m life (x ∷ xs)) ≡ account_at n p (x ∷ xs)
      of true c e f r =
          let d : begun_from at m life (x ∷ xs) ≡ x ∷ begun_from at m (next_life m x) xs = rw e refl in
          ap (λ (ys : List Account). account_at n p ys) d ∙ same-head n p x (begun_from at m (next_life m x) xs) xs r
      of false true e f r =
          let is : x.number ≡ m = equal-number x.number m f in
          let off : ((staged_at at Stage.Live x).number == n) ≡ false = ap (λ (k : ℕ). k == n) (staged-number at Stage.Live x ∙ is) ∙ apart in
          let d : begun_from at m life (x ∷ xs) ≡ staged_at at Stage.Live x ∷ xs = rw (e, f) refl in
          ap (λ (ys : List Account). account_at n p ys) d ∙ cons-same n p (staged_at at Stage.Live x) x xs xs (staged-number at Stage.Live x) (λ q. refl) off
      of false false e f r =
          let d : begun_from at m life (x ∷ xs) ≡ fresh at m life ∷ x ∷ xs = rw (e, f) refl in
          ap (λ (ys : List Account). account_at n p ys) d ∙ skip n p (fresh at m life) (x ∷ xs) (ap (λ (k : ℕ). k == n) (fresh-number at m life) ∙ apart)

  order-stays : (low life : ℕ) (xs : List Account) → low ≤ m → AreInOrder low xs → AreInOrder low (begun_from at m life xs)
  order-stays low life [] h o = (omega (arith, h, fresh-number at m life), tt)
  order-stays low life (x ∷ xs) h o = of (goes_before at m x) (x.number == m) refl refl (λ within. order-stays x.number (next_life m x) xs within o.1)
    where
      before : goes_before at m x ≡ true → x.number ≤ m
      before e = by (nat_lt x.number m) (x.number == m) refl refl e
        where
          by : (a b : Bool) → nat_lt x.number m ≡ a → (x.number == m) ≡ b → (a || (b && (if is_before_stage (stage_at at x) then false else true))) ≡ true → x.number ≤ m
          by true b f g e = grind (arith, nat_tests)
          by false true f g e = let same = equal-number x.number m g in omega (arith, same)
          by false false f g e = cc

      after : goes_before at m x ≡ false → m ≤ x.number
      after e = by (nat_lt x.number m) refl e
        where
          by : (a : Bool) → nat_lt x.number m ≡ a → (a || ((x.number == m) && (if is_before_stage (stage_at at x) then false else true))) ≡ false → m ≤ x.number
          by true f e = cc
          by false f e = grind (arith, nat_tests)

      of : (b c : Bool) → goes_before at m x ≡ b → (x.number == m) ≡ c → (x.number ≤ m → AreInOrder x.number (begun_from at m (next_life m x) xs))
          → AreInOrder low (begun_from at m life (x ∷ xs))
      of true c e f r = subst (λ (ys : List Account). AreInOrder low ys) (sym (let d : begun_from at m life (x ∷ xs) ≡ x ∷ begun_from at m (next_life m x) xs = rw e refl in d)) (o.0, r (before e))
      of false true e f r =
          subst (λ (ys : List Account). AreInOrder low ys) (sym (let d : begun_from at m life (x ∷ xs) ≡ staged_at at Stage.Live x ∷ xs = rw (e, f) refl in d))
          ((let h = o.0 in omega (arith, h, staged-number at Stage.Live x)), subst (λ (k : ℕ). AreInOrder k xs) (sym (staged-number at Stage.Live x)) o.1)
      of false false e f r =
          subst (λ (ys : List Account). AreInOrder low ys) (sym (let d : begun_from at m life (x ∷ xs) ≡ fresh at m life ∷ x ∷ xs = rw (e, f) refl in d))
          (omega (arith, h, fresh-number at m life), ((let k = after e in omega (arith, k, fresh-number at m life)), o.1))

-- ---- the life that begins

module _ (at : End) (mine theirs : View) (m : ℕ) (dead : mine.live m ≡ false)
    (mine_empty : (k : ℕ) → mine.begun m < k → (mine.gave m k ≡ []) × (mine.took m k ≡ []))
    (theirs_empty : (k : ℕ) → theirs.begun m < k → (theirs.gave m k ≡ []) × (theirs.took m k ≡ [])) where
  abbrev now : View
  now = with_one m mine

  begun-now : now.begun m ≡ mine.begun m + 1
  begun-now = rw (same-number m) refl

  live-now : now.live m ≡ true
  live-now = rw (same-number m) refl

  stage-now : (c : ℕ) → stage_of c (now.begun m) (now.live m) ≡ stage_of c (mine.begun m + 1) true
  stage-now c = ap₂ (λ (b : ℕ) (l : Bool). stage_of c b l) begun-now live-now

  stage-was : (c : ℕ) → stage_of c (mine.begun m) (mine.live m) ≡ stage_of c (mine.begun m) false
  stage-was c = ap (λ (l : Bool). stage_of c (mine.begun m) l) dead

  none-false : (b : Bool) → (b && false) ≡ false
  none-false true = refl
  none-false false = refl

  -- the account of an older life
  older : (p : ℕ) (x : Account) → p + 1 ≤ mine.begun m → IsOfLife at mine theirs m p x → IsOfLife at now theirs m p x
  older p x within l = record {
    life = l.life;
    here = l.here ∙ stage-was (p + 1) ∙ stage-over (p + 1) (mine.begun m) false within (none-false (p + 1 == mine.begun m))
        ∙ sym (stage-now (p + 1) ∙ stage-over (p + 1) (mine.begun m + 1) true (omega (arith, within)) (apart (p + 1) (mine.begun m) within));
    there = l.there;
    from_here = l.from_here;
    from_there = l.from_there;
  }
    where
      apart : (c b : ℕ) → c ≤ b → (c == b + 1 && true) ≡ false
      apart c b h = let e : (c == b + 1) ≡ false = grind (arith, nat_tests) in rw e refl

  -- that of a later one
  later : (p : ℕ) (o : Option Account) → mine.begun m < p → IsAccount at mine theirs m p o → IsAccount at now theirs m p o
  later p None less a = (omega (arith, less, begun-now), a.1)
  later p (Some x) less l = record {
    life = l.life;
    here = l.here ∙ stage-was (p + 1) ∙ stage-before (p + 1) (mine.begun m) false (omega (arith, less))
        ∙ sym (stage-now (p + 1) ∙ stage-before (p + 1) (mine.begun m + 1) true (omega (arith, less)));
    there = l.there;
    from_here = l.from_here;
    from_there = l.from_there;
  }

  -- that of this one, which the other end has begun, or a new one
  joins : (p : ℕ) (x : Account) → p ≡ mine.begun m → IsOfLife at mine theirs m p x → IsOfLife at now theirs m p (staged_at at Stage.Live x)
  joins p x is l = record {
    life = staged-life at Stage.Live x ∙ l.life;
    here = staged-here at Stage.Live x ∙ sym (stage-now (p + 1) ∙ stage-live (p + 1) (mine.begun m + 1) (omega (arith, is)));
    there = staged-there at Stage.Live x ∙ l.there;
    from_here = staged-flow at at Stage.Live x ∙ l.from_here;
    from_there = staged-flow at (other_end at) Stage.Live x ∙ l.from_there;
  }

  is-new : (p life : ℕ) → p ≡ mine.begun m → theirs.begun m ≤ p → life ≡ modulo_2_64 (p + 1) → IsOfLife at now theirs m p (fresh at m life)
  is-new p life is within e =
      let a = mine_empty (p + 1) (omega (arith, is)) in
      let b = theirs_empty (p + 1) (omega (arith, within)) in
      record {
        life = fresh-life at m life ∙ e;
        here = fresh-here at m life ∙ sym (stage-now (p + 1) ∙ stage-live (p + 1) (mine.begun m + 1) (omega (arith, is)));
        there = fresh-there at m life ∙ sym (stage-before (p + 1) (theirs.begun m) (theirs.live m) (omega (arith, within)));
        from_here = fresh-flow at at m life ∙ ap₂ (λ (xs ys : List Mark). flow_of xs ys) (sym a.0) (sym b.1);
        from_there = fresh-flow at (other_end at) m life ∙ ap₂ (λ (xs ys : List Mark). flow_of xs ys) (sym b.0) (sym a.1);
      }

  was-before : (p : ℕ) (x : Account) → IsOfLife at mine theirs m p x → is_before_stage (stage_at at x) ≡ true → mine.begun m < p + 1
  was-before p x l e = by (nat_lt (mine.begun m) (p + 1)) refl
    where
      none : (b : Bool) → is_before_stage (if b && false then Stage.Live else Stage.Over) ≡ false
      none true = refl
      none false = refl

      by : (b : Bool) → nat_lt (mine.begun m) (p + 1) ≡ b → mine.begun m < p + 1
      by true f = grind (arith, nat_tests)
      by false f =
          let s : is_before_stage (stage_at at x) ≡ false = ap is_before_stage (l.here ∙ stage-was (p + 1)) ∙ rw f (none (p + 1 == mine.begun m)) in
          absurd (let bad : true ≡ false = sym e ∙ s in cc)

  was-begun : (p : ℕ) (x : Account) → IsOfLife at mine theirs m p x → is_before_stage (stage_at at x) ≡ false → p + 1 ≤ mine.begun m
  was-begun p x l e = by (nat_lt (mine.begun m) (p + 1)) refl
    where
      by : (b : Bool) → nat_lt (mine.begun m) (p + 1) ≡ b → p + 1 ≤ mine.begun m
      by false f = grind (arith, nat_tests)
      by true f =
          let s : is_before_stage (stage_at at x) ≡ true = ap is_before_stage (l.here ∙ stage-was (p + 1)) ∙ rw f refl in
          absurd (let bad : true ≡ false = sym s ∙ e in cc)

  -- the accounts of this number from the one at place j on
  abbrev From : View → ℕ → List Account → Type 0
  From mine j xs = (i : ℕ) → IsAccount at mine theirs m (j + i) (account_at m i xs)

  shifted : (v : View) (j : ℕ) (x : Account) (xs : List Account) → (x.number == m) ≡ true → From v j (x ∷ xs) → From v (j + 1) xs
  shifted v j x xs e all = λ i.
      subst (λ (o : Option Account). IsAccount at v theirs m (j + 1 + i) o) (next-of m i x xs e)
      (subst (λ (k : ℕ). IsAccount at v theirs m k (account_at m (suc i) (x ∷ xs))) (let h : j + suc i ≡ j + 1 + i = omega arith in h) (all (suc i)))

  headed : (v : View) (j : ℕ) (x : Account) (xs : List Account) → (x.number == m) ≡ true → IsOfLife at v theirs m (j + 0) x → From v (j + 1) xs → From v j (x ∷ xs)
  headed v j x xs e l all zero = subst (λ (o : Option Account). IsAccount at v theirs m (j + 0) o) (sym (first-of m x xs e)) l
  headed v j x xs e l all (suc i) =
      subst (λ (o : Option Account). IsAccount at v theirs m (j + suc i) o) (sym (next-of m i x xs e))
      (subst (λ (k : ℕ). IsAccount at v theirs m k (account_at m i xs)) (let h : j + 1 + i ≡ j + suc i = omega arith in h) (all i))

  first-life : (v : View) (j : ℕ) (x : Account) (xs : List Account) → (x.number == m) ≡ true → From v j (x ∷ xs) → IsOfLife at v theirs m (j + 0) x
  first-life v j x xs e all = subst (λ (o : Option Account). IsAccount at v theirs m (j + 0) o) (first-of m x xs e) (all zero)

  passed-by : (v : View) (j : ℕ) (x : Account) (xs : List Account) → (x.number == m) ≡ false → From v j (x ∷ xs) → From v j xs
  passed-by v j x xs e all = λ i. subst (λ (o : Option Account). IsAccount at v theirs m (j + i) o) (skip m i x xs e) (all i)

  beyond : (v : View) (j : ℕ) (x : Account) (xs : List Account) → (x.number == m) ≡ false → From v j xs → From v j (x ∷ xs)
  beyond v j x xs e all = λ i. subst (λ (o : Option Account). IsAccount at v theirs m (j + i) o) (sym (skip m i x xs e)) (all i)

  none-left : (j : ℕ) → mine.begun m ≤ j + 0 → theirs.begun m ≤ j + 0 → j ≤ mine.begun m → (xs : List Account) → ((i : ℕ) → account_at m i xs ≡ None) → (life : ℕ) → life ≡ modulo_2_64 (j + 1)
      → From now j (fresh at m life ∷ xs)
  none-left j a b h xs none life e =
      let one : (fresh at m life).number ≡ m = fresh-number at m life in
      headed now j (fresh at m life) xs (ap (λ (k : ℕ). k == m) one ∙ same-number m)
      (is-new (j + 0) life (omega (arith, a, h)) b (e ∙ ap modulo_2_64 (let s : j + 1 ≡ j + 0 + 1 = omega arith in s)))
      (λ i. subst (λ (o : Option Account). IsAccount at now theirs m (j + 1 + i) o) (sym (none i)) (omega (arith, a, begun-now), omega (arith, b)))

  begun-at : (j life low : ℕ) (xs : List Account) → AreInOrder low xs → (j ≡ 0) ⊎ (m ≤ low) → life ≡ modulo_2_64 (j + 1) → j ≤ mine.begun m → From mine j xs
      → From now j (begun_from at m life xs)
  begun-at j life low [] o first e h all = let a = all zero in none-left j a.0 a.1 h [] (λ i. refl) life e
  begun-at j life low (x ∷ xs) o first e h all = of (nat_lt x.number m) (x.number == m) refl refl (λ i next. begun-at i next x.number xs o.1)
    where
      to : (ys : List Account) → begun_from at m life (x ∷ xs) ≡ ys → From now j ys → From now j (begun_from at m life (x ∷ xs))
      to ys d f = subst (λ (zs : List Account). From now j zs) (sym d) f

      by-stage : (x.number == m) ≡ true → nat_lt x.number m ≡ false → (b : Bool) → is_before_stage (stage_at at x) ≡ b
          → ((i next : ℕ) → (i ≡ 0) ⊎ (m ≤ x.number) → next ≡ modulo_2_64 (i + 1) → i ≤ mine.begun m → From mine i xs → From now i (begun_from at m next xs))
          → From now j (begun_from at m life (x ∷ xs))
      by-stage f g true s r =
          let l = first-life mine j x xs f all in
          let less = was-before (j + 0) x l s in
          let is : j + 0 ≡ mine.begun m = omega (arith, less, h) in
          to (staged_at at Stage.Live x ∷ xs) (rw (g, f, s) refl)
          (headed now j (staged_at at Stage.Live x) xs (ap (λ (k : ℕ). k == m) (staged-number at Stage.Live x) ∙ f) (joins (j + 0) x is l)
          (λ i. later (j + 1 + i) (account_at m i xs) (omega (arith, is)) (shifted mine j x xs f all i)))
      by-stage f g false s r =
          let l = first-life mine j x xs f all in
          let within = was-begun (j + 0) x l s in
          let is : x.number ≡ m = equal-number x.number m f in
          let next : next_life m x ≡ modulo_2_64 (j + 1 + 1) = rw f (let n = l.life in let r : (x.life + 1) % 2 ^ 64 ≡ (j + 1 + 1) % 2 ^ 64 = omega (arith, n) in r) in
          to (x ∷ begun_from at m (next_life m x) xs) (rw (g, f, s) refl)
          (headed now j x (begun_from at m (next_life m x) xs) f (older (j + 0) x within l)
          (r (j + 1) (next_life m x) (inr (omega (arith, is))) next (omega (arith, within)) (shifted mine j x xs f all)))

      above : x.number ≡ x.number → nat_lt x.number m ≡ false → (x.number == m) ≡ false → m < x.number
      above r g f = grind (arith, nat_tests)

      is-less : nat_lt x.number m ≡ true → x.number < m
      is-less g = grind (arith, nat_tests)

      not-same : nat_lt x.number m ≡ true → (x.number == m) ≡ false
      not-same g = grind (arith, nat_tests)

      of : (a b : Bool) → nat_lt x.number m ≡ a → (x.number == m) ≡ b
          → ((i next : ℕ) → (i ≡ 0) ⊎ (m ≤ x.number) → next ≡ modulo_2_64 (i + 1) → i ≤ mine.begun m → From mine i xs → From now i (begun_from at m next xs))
          → From now j (begun_from at m life (x ∷ xs))
      of true b g f0 r =
          let f = not-same g in
          let less = is-less g in
          let none : j ≡ 0 = by-first first in
          let one : next_life m x ≡ modulo_2_64 (j + 1) = rw f (let r : 1 ≡ (j + 1) % 2 ^ 64 = omega (arith, none) in r) in
          to (x ∷ begun_from at m (next_life m x) xs) (rw g refl)
          (beyond now j x (begun_from at m (next_life m x) xs) f (r j (next_life m x) (inl none) one h (passed-by mine j x xs f all)))
        where
          by-first : (j ≡ 0) ⊎ (m ≤ low) → j ≡ 0
          by-first (inl z) = z
          by-first (inr w) = absurd (let k = o.0 in let less = is-less g in omega (arith, w, k, less))
      of false true g f r = by-stage f g (is_before_stage (stage_at at x)) refl r
      of false false g f r =
          let more = above refl g f in
          let gone : (i : ℕ) → account_at m i (x ∷ xs) ≡ None = λ i. none-below m (m + 1) i (x ∷ xs) (omega arith) (omega (arith, more), o.1) in
          let a : IsAccount at mine theirs m (j + 0) None = subst (λ (q : Option Account). IsAccount at mine theirs m (j + 0) q) (gone zero) (all zero) in
          to (fresh at m life ∷ x ∷ xs) (rw (g, f) refl) (none-left j a.0 a.1 h (x ∷ xs) gone life e)

  pub begun-lives : (xs : List Account) → (m == 0) ≡ false → AreOfLives at mine theirs xs → AreOfLives at now theirs (with_begun at m xs)
  begun-lives xs above all = record {
    order = order-stays at m 1 1 xs (at-least m above) all.order;
    each = λ n p over. by n p over (m == n) refl;
  }
    where
      at-least : (k : ℕ) → (k == 0) ≡ false → 1 ≤ k
      at-least k e = grind (arith, nat_tests)

      none-plus : (p : ℕ) → 0 + p ≡ p
      none-plus p = omega arith

      same-view : (n p : ℕ) (o : Option Account) → (m == n) ≡ false → IsAccount at mine theirs n p o → IsAccount at now theirs n p o
      same-view n p None e a = ((let b : now.begun n ≡ mine.begun n = rw e refl in let k = a.0 in omega (arith, b, k)), a.1)
      same-view n p (Some x) e l = record {
        life = l.life;
        here = l.here ∙ ap₂ (λ (b : ℕ) (t : Bool). stage_of (p + 1) b t) (sym (let b : now.begun n ≡ mine.begun n = rw e refl in b)) (sym (let b : now.live n ≡ mine.live n = rw e refl in b));
        there = l.there;
        from_here = l.from_here;
        from_there = l.from_there;
      }

      by : (n p : ℕ) → (n == 0) ≡ false → (b : Bool) → (m == n) ≡ b → IsAccount at now theirs n p (account_at n p (with_begun at m xs))
      by n p over true e =
          let is : m ≡ n = equal-number m n e in
          subst (λ (k : ℕ). IsAccount at now theirs k p (account_at k p (with_begun at m xs))) is
          (subst (λ (q : ℕ). IsAccount at now theirs m q (account_at m p (with_begun at m xs))) (none-plus p)
          (begun-at 0 1 1 xs all.order (inl refl) (let r : 1 ≡ (0 + 1) % 2 ^ 64 = omega arith in r) (omega arith)
          (λ i. subst (λ (q : ℕ). IsAccount at mine theirs m q (account_at m i xs)) (sym (none-plus i)) (all.each m i above)) p))
      by n p over false e =
          subst (λ (o : Option Account). IsAccount at now theirs n p o) (sym (others-stay at m n e 1 xs p)) (same-view n p (account_at n p xs) e (all.each n p over))
