-- The lives of a number come one after the other: each but the last has ended.
use Rattle.std.proofs.Common.{◌≡◌, ℕ, ◌+◌, ◌<◌, ◌==◌, nat_lt, Bool, true, false, not, ◌&&◌, ◌||◌, if◌then◌else◌, List, [], ◌∷◌, refl, sym, ap, ◌∙◌, arith}
use Rattle.std.proofs.lemmas.Bool.{ltb-true, lt-ltb, ltb-false}
use Rattle.beep_journal.specs.Lives.{Event, close_came, start_granted, close_granted, lives, has_ended, life_named}
use Rattle.beep_journal.specs.Laws.{IsLiveLife}

or-true : (b : Bool) → (b || true) ≡ true
or-true true = refl
or-true false = refl

-- where a life begins, the last one has ended
last-ended : (same some ended : Bool) → some ≡ true → (same && not (some && not ended)) ≡ true → ended ≡ true
last-ended true true true s e = refl
last-ended true true false s e = cc
last-ended true false ended s e = cc
last-ended false some ended s e = cc

begun-ended : (n k : ℕ) (es : List Event) (below : Bool) → nat_lt k (lives n es) ≡ below
    → (k < lives n es → has_ended n k es ≡ true) → (k ≡ lives n es → has_ended n k es ≡ true)
    → k < lives n es + 1 → has_ended n k es ≡ true
begun-ended n k es true test before last within = before (ltb-true _ _ test)
begun-ended n k es false test before last within = last (omega (arith, ltb-false _ _ test))

start-ended : (n k : ℕ) (es : List Event) (same begins : Bool)
    → (same && not (nat_lt 0 (lives n es) && not (has_ended n (lives n es) es))) ≡ begins
    → 0 < k → (k < lives n es → has_ended n k es ≡ true)
    → k < (if begins then lives n es + 1 else lives n es) → has_ended n k es ≡ true
start-ended n k es same true begins some before within =
    begun-ended n k es (nat_lt k (lives n es)) refl before
    (λ (last : k ≡ lives n es). rw last (last-ended same (nat_lt 0 (lives n es)) (has_ended n (lives n es) es) (lt-ltb _ _ (omega (arith, some, last))) begins))
    within
start-ended n k es same false begins some before within = before within

pub ended-before : (n k : ℕ) (es : List Event) → 0 < k → k < lives n es → has_ended n k es ≡ true
ended-before n k [] some within = absurd (omega (arith, within))
ended-before n k (close_came side position of ∷ es) some within = ended-before n k es some within
ended-before n k (close_granted side position of ∷ es) some within =
    ap (λ x. (of == n && life_named n side position es == k) || x) (ended-before n k es some within) ∙ or-true _
ended-before n k (start_granted of ∷ es) some within =
    start-ended n k es (of == n) (of == n && not (nat_lt 0 (lives n es) && not (has_ended n (lives n es) es))) refl some (ended-before n k es some) within

-- a life that is live is the last that has begun
pub live-is-last : (n k : ℕ) (es : List Event) → IsLiveLife n k es → k ≡ lives n es
live-is-last n k es live = by_test (nat_lt k (lives n es)) refl
  where
    by_test : (below : Bool) → nat_lt k (lives n es) ≡ below → k ≡ lives n es
    by_test true test = (let clash : false ≡ true = sym live.goes_on ∙ ended-before n k es live.first (ltb-true _ _ test) in cc)
    by_test false test = omega (arith, ltb-false _ _ test, live.begun)

pub one-live : (n j k : ℕ) (es : List Event) → IsLiveLife n j es → IsLiveLife n k es → j ≡ k
one-live n j k es first second = live-is-last n j es first ∙ sym (live-is-last n k es second)
