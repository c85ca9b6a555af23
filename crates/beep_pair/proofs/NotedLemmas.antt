-- The lives that begin and end in one step, in the accounts of all lives.
use Rattle.std.proofs.Common.{◌≡◌, ℕ, ◌+◌, ◌<◌, ◌≤◌, ◌==◌, Bool, true, false, not, ◌&&◌, ◌||◌, if◌then◌else◌, List, [], ◌∷◌, Option, Some, None, refl, sym, ap, ap₂, ◌∙◌, subst, arith}
use Rattle.beep_two_sessions.specs.beep_history.specs.Marks.{Mark}
use Rattle.beep_two_sessions.specs.beep_journal.proofs.MomentLemmas.{equal-number}
use Rattle.beep_schedule.specs.declared.event.End.{End}
use Rattle.beep_report.specs.beep_tally.specs.Accounts.{is_in, with_ended, with_begun, with_each_ended, with_each_begun, lives_noted}
use Rattle.beep_report.specs.beep_tally.specs.declared.account.Account.{Account}
use Rattle.beep_pair.specs.Totals.{flow_of, account_at, View, stage_of, IsAccount, AreOfLives}
use Rattle.beep_pair.proofs.TotalLemmas.{without, ended-lives}
use Rattle.beep_pair.proofs.BegunLemmas.{with_one, begun-lives}

-- ---- another view of the same lives

pub record IsSameView (one other : View) : Type 0 where
  pub begun : (n : ℕ) → (n == 0) ≡ false → other.begun n ≡ one.begun n
  pub live : (n : ℕ) → (n == 0) ≡ false → other.live n ≡ one.live n
  pub gave : (n k : ℕ) → other.gave n k ≡ one.gave n k
  pub took : (n k : ℕ) → other.took n k ≡ one.took n k

pub same-lives : (at : End) (mine other theirs : View) (xs : List Account) → IsSameView mine other → AreOfLives at mine theirs xs → AreOfLives at other theirs xs
same-lives at mine other theirs xs s all = record { order = all.order; each = λ n p above. by n p above (account_at n p xs) (all.each n p above) }
  where
    by : (n p : ℕ) → (n == 0) ≡ false → (o : Option Account) → IsAccount at mine theirs n p o → IsAccount at other theirs n p o
    by n p above None a = ((let h = a.0 in omega (arith, h, s.begun n above)), a.1)
    by n p above (Some x) l = record {
      life = l.life;
      here = l.here ∙ sym (ap₂ (λ (b : ℕ) (t : Bool). stage_of (p + 1) b t) (s.begun n above) (s.live n above));
      there = l.there;
      from_here = l.from_here ∙ ap (λ (ms : List Mark). flow_of ms (theirs.took n (p + 1))) (sym (s.gave n (p + 1)));
      from_there = l.from_there ∙ ap (λ (ms : List Mark). flow_of (theirs.gave n (p + 1)) ms) (sym (s.took n (p + 1)));
    }

-- the same of the two ends exchanged
pub turned-lives : (mine theirs : View) (xs : List Account) → AreOfLives End.A mine theirs xs → AreOfLives End.B theirs mine xs
turned-lives mine theirs xs all = record { order = all.order; each = λ n p above. by n p (account_at n p xs) (all.each n p above) }
  where
    by : (n p : ℕ) → (o : Option Account) → IsAccount End.A mine theirs n p o → IsAccount End.B theirs mine n p o
    by n p None a = (a.1, a.0)
    by n p (Some x) l = record { life = l.life; here = l.there; there = l.here; from_here = l.from_there; from_there = l.from_here }

pub back-lives : (mine theirs : View) (xs : List Account) → AreOfLives End.B theirs mine xs → AreOfLives End.A mine theirs xs
back-lives mine theirs xs all = record { order = all.order; each = λ n p above. by n p (account_at n p xs) (all.each n p above) }
  where
    by : (n p : ℕ) → (o : Option Account) → IsAccount End.B theirs mine n p o → IsAccount End.A mine theirs n p o
    by n p None a = (a.1, a.0)
    by n p (Some x) l = record { life = l.life; here = l.there; there = l.here; from_here = l.from_there; from_there = l.from_here }

-- ---- the lives that end

abbrev ended_each : List ℕ → List ℕ → View → View
ended_each after [] v = v
ended_each after (m ∷ ms) v = ended_each after ms (if is_in m after then v else without m v)

ended-each : (at : End) (theirs : View) (after ms : List ℕ) (v : View) (xs : List Account) → AreOfLives at v theirs xs → AreOfLives at (ended_each after ms v) theirs (with_each_ended at after ms xs)
ended-each at theirs after [] v xs all = all
ended-each at theirs after (m ∷ ms) v xs all =
    ended-each at theirs after ms (if is_in m after then v else without m v) (if is_in m after then xs else with_ended at m xs) (of (is_in m after))
  where
    of : (b : Bool) → AreOfLives at (if b then v else without m v) theirs (if b then xs else with_ended at m xs)
    of true = all
    of false = ended-lives at v theirs m xs all

record IsKeptBut (v w : View) : Type 0 where
  pub begun : (n : ℕ) → w.begun n ≡ v.begun n
  pub gave : (n k : ℕ) → w.gave n k ≡ v.gave n k
  pub took : (n k : ℕ) → w.took n k ≡ v.took n k

ended-kept : (after ms : List ℕ) (v : View) → IsKeptBut v (ended_each after ms v)
ended-kept after [] v = record { begun = λ n. refl; gave = λ n k. refl; took = λ n k. refl }
ended-kept after (m ∷ ms) v = by (is_in m after) (ended-kept after ms (if is_in m after then v else without m v))
  where
    by : (b : Bool) → IsKeptBut (if b then v else without m v) (ended_each after ms (if is_in m after then v else without m v)) → IsKeptBut v (ended_each after ms (if is_in m after then v else without m v))
    by true k = k
    by false k = record { begun = k.begun; gave = k.gave; took = k.took }

ended-live : (after ms : List ℕ) (v : View) (n : ℕ) → (ended_each after ms v).live n ≡ (v.live n && (not (is_in n ms) || is_in n after))
ended-live after [] v n = of (v.live n)
  where
    of : (b : Bool) → b ≡ (b && true)
    of true = refl
    of false = refl
ended-live after (m ∷ ms) v n =
    ended-live after ms (if is_in m after then v else without m v) n
    ∙ of (is_in m after) (m == n) (is_in n after) refl (λ e. ap (λ (k : ℕ). is_in k after) (equal-number m n e))
  where
    step : (l e i a : Bool) → ((l && not e) && (not i || a)) ≡ (l && (not e && (not i || a)))
    step true e i a = refl
    step false e i a = refl

    of : (t e a : Bool) → (m == n) ≡ e → (e ≡ true → t ≡ a)
        → ((if t then v else without m v).live n && (not (is_in n ms) || a)) ≡ (v.live n && (not (e || is_in n ms) || a))
    of true true true f same = ap (λ (b : Bool). v.live n && b) (or-true (not (is_in n ms)))
      where
        or-true : (b : Bool) → (b || true) ≡ true
        or-true true = refl
        or-true false = refl
    of true true false f same = absurd (let bad : true ≡ false = same refl in cc)
    of true false a f same = refl
    of false true true f same = absurd (let bad : false ≡ true = same refl in cc)
    of false true false f same = step (v.live n) (m == n) (is_in n ms) false ∙ ap (λ (b : Bool). v.live n && (not b && (not (is_in n ms) || false))) f
    of false false a f same = step (v.live n) (m == n) (is_in n ms) a ∙ ap (λ (b : Bool). v.live n && (not b && (not (is_in n ms) || a))) f

-- ---- the lives that begin

abbrev begun_each : List ℕ → List ℕ → View → View
begun_each before [] v = v
begun_each before (m ∷ ms) v = begun_each before ms (if is_in m before then v else with_one m v)

-- no number stands twice
abbrev pub AreApart : List ℕ → Type 0
AreApart [] = Unit {0}
AreApart (m ∷ ms) = (is_in m ms ≡ false) × AreApart ms

abbrev pub AreAbove : List ℕ → Type 0
AreAbove [] = Unit {0}
AreAbove (m ∷ ms) = ((m == 0) ≡ false) × AreAbove ms

-- nothing was given or taken in a life that hasn't begun
abbrev pub IsEmptyView : View → Type 0
IsEmptyView v = (n k : ℕ) → (n == 0) ≡ false → v.begun n < k → (v.gave n k ≡ []) × (v.took n k ≡ [])

-- those of these numbers that weren't live before are not
abbrev AreDead : List ℕ → List ℕ → View → Type 0
AreDead before [] v = Unit {0}
AreDead before (m ∷ ms) v = (is_in m before ≡ false → v.live m ≡ false) × AreDead before ms v

one-empty : (m : ℕ) (v : View) → IsEmptyView v → IsEmptyView (with_one m v)
one-empty m v e n k above less = e n k above (more (m == n) less)
  where
    more : (b : Bool) → (if b then v.begun n + 1 else v.begun n) < k → v.begun n < k
    more true h = omega (arith, h)
    more false h = h

-- another number stays as it is
dead-stays : (m : ℕ) (before ms : List ℕ) (v : View) → is_in m ms ≡ false → AreDead before ms v → AreDead before ms (with_one m v)
dead-stays m before [] v e d = tt
dead-stays m before (n ∷ ms) v e d =
    ((λ f. rw (apart (n == m) refl) (d.0 f)), dead-stays m before ms v (or-second (n == m) (is_in m ms) e) d.1)
  where
    or-first : (a b : Bool) → (a || b) ≡ false → a ≡ false
    or-first true b e = e
    or-first false b e = refl

    or-second : (a b : Bool) → (a || b) ≡ false → b ≡ false
    or-second true b e = absurd (let bad : true ≡ false = e in cc)
    or-second false b e = e

    turned : (b : Bool) → (m == n) ≡ b → (n == m) ≡ b
    turned true t = ap (λ (k : ℕ). k == m) (sym (equal-number m n t)) ∙ ap (λ (k : ℕ). m == k) (equal-number m n t) ∙ t
    turned false t = by (n == m) refl
      where
        by : (b : Bool) → (n == m) ≡ b → b ≡ false
        by true u = absurd (let bad : true ≡ false = sym (ap (λ (k : ℕ). k == n) (sym (equal-number n m u)) ∙ ap (λ (k : ℕ). n == k) (equal-number n m u) ∙ u) ∙ t in cc)
        by false u = refl

    apart : (b : Bool) → (n == m) ≡ b → (m == n) ≡ false
    apart b u = by (m == n) refl
      where
        by : (c : Bool) → (m == n) ≡ c → c ≡ false
        by true t = absurd (let bad : true ≡ false = sym (turned true t) ∙ or-first (n == m) (is_in m ms) e in cc)
        by false t = refl

begun-each : (at : End) (theirs : View) (before ms : List ℕ) (v : View) (xs : List Account) → IsEmptyView v → IsEmptyView theirs → AreApart ms → AreAbove ms → AreDead before ms v
    → AreOfLives at v theirs xs → AreOfLives at (begun_each before ms v) theirs (with_each_begun at before ms xs)
begun-each at theirs before [] v xs empty none apart above dead all = all
begun-each at theirs before (m ∷ ms) v xs empty none apart above dead all = of (is_in m before) refl (λ w ys e d. begun-each at theirs before ms w ys e none apart.1 above.1 d)
  where
    of : (b : Bool) → is_in m before ≡ b
        → ((w : View) (ys : List Account) → IsEmptyView w → AreDead before ms w → AreOfLives at w theirs ys → AreOfLives at (begun_each before ms w) theirs (with_each_begun at before ms ys))
        → AreOfLives at (begun_each before (m ∷ ms) v) theirs (with_each_begun at before (m ∷ ms) xs)
    of true e r = rw e (r v xs empty dead.1 all)
    of false e r =
        rw e (r (with_one m v) (with_begun at m xs) (one-empty m v empty) (dead-stays m before ms v apart.0 dead.1)
        (begun-lives at v theirs m (dead.0 e) (λ k less. empty m k above.0 less) (λ k less. none m k above.0 less) xs above.0 all))

-- one more has begun, or none
abbrev one_more : Bool → ℕ
one_more b = if b then 1 else 0

record IsBegun (v w : View) (before ms : List ℕ) : Type 0 where
  pub begun : (n : ℕ) → w.begun n ≡ v.begun n + one_more (is_in n ms && not (is_in n before))
  pub live : (n : ℕ) → w.live n ≡ (v.live n || (is_in n ms && not (is_in n before)))
  pub gave : (n k : ℕ) → w.gave n k ≡ v.gave n k
  pub took : (n k : ℕ) → w.took n k ≡ v.took n k

begun-of : (before ms : List ℕ) (v : View) → AreApart ms → IsBegun v (begun_each before ms v) before ms
begun-of before [] v apart = record { begun = λ n. omega arith; live = λ n. or-none (v.live n); gave = λ n k. refl; took = λ n k. refl }
  where
    or-none : (b : Bool) → b ≡ (b || false)
    or-none true = refl
    or-none false = refl
begun-of before (m ∷ ms) v apart = of (is_in m before) refl (begun-of before ms (if is_in m before then v else with_one m v) apart.1)
  where
    of : (b : Bool) → is_in m before ≡ b → IsBegun (if b then v else with_one m v) (begun_each before (m ∷ ms) v) before ms → IsBegun v (begun_each before (m ∷ ms) v) before (m ∷ ms)
    of true e k = record {
      begun = λ n. k.begun n ∙ ap (λ (b : Bool). v.begun n + one_more b) (same n (m == n) refl);
      live = λ n. k.live n ∙ ap (λ (b : Bool). v.live n || b) (same n (m == n) refl);
      gave = k.gave;
      took = k.took;
    }
      where
        same : (n : ℕ) (b : Bool) → (m == n) ≡ b → (is_in n ms && not (is_in n before)) ≡ ((b || is_in n ms) && not (is_in n before))
        same n true t = by (is_in n ms) (is_in n before) (ap (λ (k : ℕ). is_in k before) (sym (equal-number m n t)) ∙ e)
          where
            by : (i c : Bool) → c ≡ true → (i && not c) ≡ not c
            by true c u = refl
            by false true u = refl
            by false false u = absurd (let bad : false ≡ true = u in cc)
        same n false t = refl
    of false e k = record {
      begun = λ n. k.begun n ∙ more n (m == n) refl;
      live = λ n. k.live n ∙ lives n (m == n) refl;
      gave = k.gave;
      took = k.took;
    }
      where
        -- the number itself is among no others, and wasn't live before
        alone : (n : ℕ) → (m == n) ≡ true → is_in n ms ≡ false
        alone n t = ap (λ (k : ℕ). is_in k ms) (sym (equal-number m n t)) ∙ apart.0

        new : (n : ℕ) → (m == n) ≡ true → is_in n before ≡ false
        new n t = ap (λ (k : ℕ). is_in k before) (sym (equal-number m n t)) ∙ e

        more : (n : ℕ) (b : Bool) → (m == n) ≡ b → (if m == n then v.begun n + 1 else v.begun n) + one_more (is_in n ms && not (is_in n before)) ≡ v.begun n + one_more ((m == n || is_in n ms) && not (is_in n before))
        more n true t = rw (t, alone n t, new n t) (let h : v.begun n + 1 + 0 ≡ v.begun n + 1 = omega arith in h)
        more n false t = rw t refl

        lives : (n : ℕ) (b : Bool) → (m == n) ≡ b → ((m == n || v.live n) || (is_in n ms && not (is_in n before))) ≡ (v.live n || ((m == n || is_in n ms) && not (is_in n before)))
        lives n true t = rw (t, new n t) (or-true (v.live n))
          where
            or-true : (b : Bool) → true ≡ (b || true)
            or-true true = refl
            or-true false = refl
        lives n false t = rw t refl

-- ---- all of it

module _ (at : End) (mine theirs now : View) (before after : List ℕ) (xs : List Account)
    (was : (n : ℕ) → (n == 0) ≡ false → mine.live n ≡ is_in n before) (is : (n : ℕ) → (n == 0) ≡ false → now.live n ≡ is_in n after)
    (counts : (n : ℕ) → (n == 0) ≡ false → now.begun n ≡ mine.begun n + one_more (now.live n && not (mine.live n)))
    (gave : (n k : ℕ) → now.gave n k ≡ mine.gave n k) (took : (n k : ℕ) → now.took n k ≡ mine.took n k)
    (apart : AreApart after) (above : AreAbove after) (empty : IsEmptyView mine) (none : IsEmptyView theirs) (all : AreOfLives at mine theirs xs) where
  abbrev middle : View
  middle = ended_each after before mine

  kept : IsKeptBut mine middle
  kept = ended-kept after before mine

  middle-empty : IsEmptyView middle
  middle-empty n k over less =
      let e = empty n k over (omega (arith, less, kept.begun n)) in
      (kept.gave n k ∙ e.0, kept.took n k ∙ e.1)

  middle-live : (n : ℕ) → (n == 0) ≡ false → middle.live n ≡ (is_in n before && is_in n after)
  middle-live n over = ended-live after before mine n ∙ ap (λ (b : Bool). b && (not (is_in n before) || is_in n after)) (was n over) ∙ both (is_in n before) (is_in n after)
    where
      both : (b a : Bool) → (b && (not b || a)) ≡ (b && a)
      both true a = refl
      both false a = refl

  middle-dead : (ms : List ℕ) → AreAbove ms → AreDead before ms middle
  middle-dead [] over = tt
  middle-dead (m ∷ ms) over = ((λ e. middle-live m over.0 ∙ ap (λ (b : Bool). b && is_in m after) e), middle-dead ms over.1)

  begun-all : IsBegun middle (begun_each before after middle) before after
  begun-all = begun-of before after middle apart

  last-same : IsSameView (begun_each before after middle) now
  last-same = record {
    begun = λ n over. counts n over ∙ ap (λ (b : ℕ). b + one_more (now.live n && not (mine.live n))) (sym (kept.begun n))
        ∙ ap₂ (λ (a b : Bool). middle.begun n + one_more (a && not b)) (is n over) (was n over) ∙ sym (begun-all.begun n);
    live = λ n over. is n over ∙ sym (begun-all.live n ∙ ap (λ (b : Bool). b || (is_in n after && not (is_in n before))) (middle-live n over) ∙ either (is_in n before) (is_in n after));
    gave = λ n k. gave n k ∙ sym (kept.gave n k) ∙ sym (begun-all.gave n k);
    took = λ n k. took n k ∙ sym (kept.took n k) ∙ sym (begun-all.took n k);
  }
    where
      either : (b a : Bool) → ((b && a) || (a && not b)) ≡ a
      either true true = refl
      either true false = refl
      either false true = refl
      either false false = refl

  pub noted-lives : AreOfLives at now theirs (lives_noted at before after xs)
  noted-lives =
      same-lives at (begun_each before after middle) now theirs _ last-same
      (begun-each at theirs before after middle (with_each_ended at after before xs) middle-empty none apart above (middle-dead after above)
      (ended-each at theirs after before mine xs all))
