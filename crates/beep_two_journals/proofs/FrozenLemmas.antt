-- A life that has ended goes no further, and what arrived of a life was sent of it, whether it has ended or not.
use Rattle.std.proofs.Common.{◌≡◌, ℕ, ◌<◌, ◌==◌, Bool, true, false, not, ◌&&◌, if◌then◌else◌, List, [], ◌∷◌, ◌++◌, refl, sym, ap, ◌∙◌, arith, subst, append_assoc}
use Rattle.std.proofs.lemmas.Bool.Decides.{nat_tests}
use Rattle.beep_history.specs.Journal.{Item}
use Rattle.beep_two_ends.specs.Seen.{arrived, sent}
use Rattle.beep_two_journals.proofs.Entries.{Entry, asks, replies, on, lives, ended, is_live, life_now, life, IsLawfulEnd, came, went, Causal}
use Rattle.beep_two_journals.proofs.WalkLemmas.{same_life, when_all, SentBefore, sent-before, end-earlier, live_parts}
use Rattle.beep_two_journals.proofs.EndsLemmas.{came-append, ended-later, end_moment}
use Rattle.beep_two_journals.proofs.TailLemmas.{causal-parts}
use Rattle.beep_two_journals.proofs.OkLemmas.{ends-here, true-false}

not-true : (b : Bool) → (b ≡ true → ⊥) → b ≡ false
not-true true h = absurd (h refl)
not-true false h = refl

not-now : (n k : ℕ) (past : List Entry) → ended n k past ≡ true → 0 < k → (life_now n past == k) ≡ false
not-now n k past e pos = by-live (is_live n past) refl
  where
    at-zero : (k : ℕ) → 0 < k → (0 == k) ≡ false
    at-zero k pos = grind (arith, nat_tests)

    at-place : (a b : ℕ) → (a == b) ≡ true → a ≡ b
    at-place a b e = grind (arith, nat_tests)

    by-live : (b : Bool) → is_live n past ≡ b → ((if b then lives n past else 0) == k) ≡ false
    by-live false l = at-zero k pos
    by-live true l =
        not-true _ (λ t. true-false (ended n (lives n past) past) (ap (λ (j : ℕ). ended n j past) (at-place _ _ t) ∙ e) (live_parts n past l).1)

pub frozen : (n k : ℕ) → 0 < k → (later over : List Entry) → ended n k over ≡ true → life n k (later ++ over) ≡ life n k over
frozen n k pos [] over e = refl
frozen n k pos (asks by says ∷ later) over e = frozen n k pos later over e
frozen n k pos (replies by ok ∷ later) over e = frozen n k pos later over e
frozen n k pos (on m item ∷ later) over e =
    off (m == n) (life_now n (later ++ over) == k) item (life n k (later ++ over)) (not-now n k (later ++ over) (ended-later n k later over e) pos) ∙ frozen n k pos later over e
  where
    off : (b c : Bool) (x : Item) (xs : List Item) → c ≡ false → (if b && c then x ∷ xs else xs) ≡ xs
    off b true x xs e = cc
    off true false x xs e = refl
    off false false x xs e = refl

-- ---- what arrived of a life was sent of it

pub life_way : (own : ℕ → Bool) (mine theirs : List Entry) (n k : ℕ) → IsLawfulEnd own mine → IsLawfulEnd (λ m. not (own m)) theirs → Causal mine theirs
    → (wire : List Entry) → went mine ≡ wire ++ came theirs → 0 < k → SentBefore (arrived (life n k theirs)) (sent (life n k mine))
life_way own mine theirs n k l w c wire e pos = by-end (ended n k theirs) refl
  where
    going : (theirs : List Entry) (wire : List Entry) → IsLawfulEnd (λ m. not (own m)) theirs → Causal mine theirs → went mine ≡ wire ++ came theirs → ended n k theirs ≡ false
        → SentBefore (arrived (life n k theirs)) (sent (life n k mine))
    going theirs wire w c e f =
        let m = when_all mine wire (came theirs) e in
        let l' = end-earlier own m.later m.earlier (subst (λ (xs : List Entry). IsLawfulEnd own xs) m.is l) in
        let c' = causal-parts m.later m.earlier [] theirs (subst (λ (xs : List Entry). Causal xs theirs) m.is c) in
        let same = same_life own m.earlier theirs n k l' w c' (sym m.at) pos f in
        let b = sent-before n k m.later m.earlier in
        record { newer = b.newer; is = ap (λ (xs : List Entry). sent (life n k xs)) m.is ∙ b.is ∙ ap (λ (xs : List Item). b.newer ++ xs) (sym same) }

    by-end : (b : Bool) → ended n k theirs ≡ b → SentBefore (arrived (life n k theirs)) (sent (life n k mine))
    by-end false f = going theirs wire w c e f
    by-end true f =
        let m = end_moment n k theirs f in
        let split : theirs ≡ (m.later ++ replies m.by true ∷ []) ++ m.earlier = m.is ∙ sym (append_assoc m.later (replies m.by true ∷ []) m.earlier) in
        let w' = end-earlier (λ j. not (own j)) (m.later ++ replies m.by true ∷ []) m.earlier (subst (λ (xs : List Entry). IsLawfulEnd (λ j. not (own j)) xs) split w) in
        let c' = causal-parts [] mine (m.later ++ replies m.by true ∷ []) m.earlier (subst (λ (xs : List Entry). Causal mine xs) split c) in
        let e' : went mine ≡ (wire ++ came (m.later ++ replies m.by true ∷ [])) ++ came m.earlier =
        e ∙ ap (λ (xs : List Entry). wire ++ xs) (ap came split ∙ came-append (m.later ++ replies m.by true ∷ []) m.earlier) ∙ sym (append_assoc wire _ (came m.earlier)) in
        let g = going m.earlier (wire ++ came (m.later ++ replies m.by true ∷ [])) w' c' e' m.before in
        let over : ended n k (replies m.by true ∷ m.earlier) ≡ true = ends-here n k m.by m.earlier m.close m.named in
        let same : life n k theirs ≡ life n k m.earlier = ap (life n k) m.is ∙ frozen n k pos m.later (replies m.by true ∷ m.earlier) over in
        record { newer = g.newer; is = g.is ∙ ap (λ (xs : List Item). g.newer ++ arrived xs) (sym same) }
