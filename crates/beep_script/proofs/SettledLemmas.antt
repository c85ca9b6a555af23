-- The test of what is due asks all channels on which something can be.
use Rattle.std.proofs.Common.{◌≡◌, ℕ, ◌+◌, ◌<◌, ◌==◌, nat_lt, Bool, true, false, not, ◌&&◌, ◌||◌, if◌then◌else◌, List, [], ◌∷◌, Option, None, Some, refl, sym, ap, subst, arith}
use Rattle.std.specs.List.{list_all}
use Rattle.std.specs.Option.{is_none}
use Rattle.std.proofs.lemmas.Bool.{ltb-true}
use Rattle.beep_chars.proofs.BoolLemmas.{left_of, right_of}
use Rattle.beep_frame.specs.declared.seq.Seq.{Seq}
use Rattle.beep_history.specs.Journal.{Item}
use Rattle.beep_journal.specs.Life.{is_there}
use Rattle.beep_journal.specs.Lives.{Event, close_came, start_granted, close_granted, lives, has_ended, is_live}
use Rattle.beep_journal.specs.Zero.{events}
use Rattle.beep_journal.proofs.MomentLemmas.{same-number, equal-number}
use Rattle.beep_decide.specs.Decide.{is_among}
use Rattle.beep_lawful.specs.Due.{due, is_ready}
use Rattle.beep_talk.specs.Plan.{PlainPlan}
use Rattle.beep_script.specs.Desk.{live_among, live_numbers}
use Rattle.beep_script.specs.Script.{unsent}
use Rattle.beep_script.specs.Prompt.{taken_all, IsSettled, is_settled_at, is_settled}

-- ---- numbers in lists

or-right : (a b : Bool) → b ≡ true → (a || b) ≡ true
or-right true b is = refl
or-right false b is = is

both : (a b : Bool) → a ≡ true → b ≡ true → (a && b) ≡ true
both true b first second = second
both false b first second = absurd cc

add-where : (b : Bool) (n m : ℕ) (xs : List ℕ) → is_among n xs ≡ true → is_among n (if b then m ∷ xs else xs) ≡ true
add-where true n m xs is = or-right (m == n) (is_among n xs) is
add-where false n m xs is = is

all-hold : (p : ℕ → Bool) (n : ℕ) (xs : List ℕ) → list_all p xs ≡ true → is_among n xs ≡ true → p n ≡ true
all-hold p n [] all among = absurd cc
all-hold p n (x ∷ xs) all among = by (all-hold p n xs (right_of (p x) (list_all p xs) all)) (x == n) refl among
  where
    by : (is_among n xs ≡ true → p n ≡ true) → (b : Bool) → (x == n) ≡ b → (b || is_among n xs) ≡ true → p n ≡ true
    by rest true same among = subst (λ (m : ℕ). p m ≡ true) (equal-number x n same) (left_of (p x) (list_all p xs) all)
    by rest false apart among = rest among

all-of : (p : ℕ → Bool) → ((n : ℕ) → p n ≡ true) → (xs : List ℕ) → list_all p xs ≡ true
all-of p each [] = refl
all-of p each (x ∷ xs) = both (p x) (list_all p xs) (each x) (all-of p each xs)

-- ---- live channels

begun-where : (n of : ℕ) (same granted : Bool) (count : ℕ) → same ≡ false → (if same && granted then count + 1 else count) ≡ count
begun-where n of true granted count e = absurd cc
begun-where n of false granted count e = refl

live-listed : (n : ℕ) (es part : List Event) → is_live n es ≡ true → 0 < lives n part → is_among n (live_among es part) ≡ true
live-listed n es [] live begun = absurd (omega arith)
live-listed n es (close_came side position number ∷ part) live begun = live-listed n es part live begun
live-listed n es (close_granted side position number ∷ part) live begun = live-listed n es part live begun
live-listed n es (start_granted number ∷ part) live begun = by (live-listed n es part live) (number == n) refl
  where
    here : (b : Bool) → is_live number es ≡ true → is_among number (live_among es part) ≡ b
        → is_among number (if is_live number es && not (is_among number (live_among es part)) then number ∷ live_among es part else live_among es part) ≡ true
    here true alive is = add-where (is_live number es && not (is_among number (live_among es part))) number number (live_among es part) is
    here false alive is = rw (alive, is) (ap (λ b. b || is_among number (live_among es part)) (same-number number))

    by : (0 < lives n part → is_among n (live_among es part) ≡ true) → (b : Bool) → (number == n) ≡ b
        → is_among n (live_among es (start_granted number ∷ part)) ≡ true
    by rest true same =
        let e = equal-number number n same in
        subst (λ (m : ℕ). is_among m (live_among es (start_granted number ∷ part)) ≡ true) e
        (here _ (subst (λ (m : ℕ). is_live m es ≡ true) (sym e) live) refl)
    by rest false apart =
        add-where (is_live number es && not (is_among number (live_among es part))) n number (live_among es part)
        (rest (subst (λ (count : ℕ). 0 < count) (begun-where n number (number == n) _ (lives n part) apart) begun))

-- ---- the law

none-of : (o : Option Seq) → is_none o ≡ true → o ≡ None
none-of None is = refl
none-of (Some seq) is = absurd cc

false-of : (b : Bool) → not b ≡ true → b ≡ false
false-of true is = absurd cc
false-of false is = refl

settled-there : (plan : PlainPlan) (journal : List Item) (n : ℕ) → is_settled plan journal ≡ true → is_there n journal ≡ true → is_settled_at plan journal n ≡ true
settled-there plan journal n settled there = by (n == 0) refl there
  where
    by : (b : Bool) → (n == 0) ≡ b → (b || is_live n (events journal)) ≡ true → is_settled_at plan journal n ≡ true
    by true same there =
        subst (λ (m : ℕ). is_settled_at plan journal m ≡ true) (sym (equal-number n 0 same))
        (left_of (is_settled_at plan journal 0) (list_all (is_settled_at plan journal) (live_numbers journal)) settled)
    by false apart there =
        all-hold (is_settled_at plan journal) n (live_numbers journal)
        (right_of (is_settled_at plan journal 0) (list_all (is_settled_at plan journal) (live_numbers journal)) settled)
        (live-listed n (events journal) (events journal) there
        (ltb-true 0 (lives n (events journal)) (left_of (nat_lt 0 (lives n (events journal))) (not (has_ended n (lives n (events journal)) (events journal))) there)))

pub settled-of : (plan : PlainPlan) (journal : List Item) → is_settled plan journal ≡ true → IsSettled plan journal
settled-of plan journal settled = record {
  no_seq = λ n. seq n (is_there n journal) refl;
  none_ready = λ n. ready n (is_there n journal) refl;
}
  where
    seq : (n : ℕ) (b : Bool) → is_there n journal ≡ b → due plan.terms.window (taken_all journal n) n journal ≡ None
    seq n true there = none-of _ (left_of (is_none (due plan.terms.window (taken_all journal n) n journal)) (not (is_ready n (unsent plan n journal) journal)) (settled-there plan journal n settled there))
    seq n false gone = rw (gone) refl

    ready : (n : ℕ) (b : Bool) → is_there n journal ≡ b → is_ready n (unsent plan n journal) journal ≡ false
    ready n true there = false-of _ (right_of (is_none (due plan.terms.window (taken_all journal n) n journal)) (not (is_ready n (unsent plan n journal) journal)) (settled-there plan journal n settled there))
    ready n false gone = rw (gone) refl

pub settled-test : (plan : PlainPlan) (journal : List Item) → IsSettled plan journal → is_settled plan journal ≡ true
settled-test plan journal settled = all-of (is_settled_at plan journal) each (0 ∷ live_numbers journal)
  where
    each : (n : ℕ) → is_settled_at plan journal n ≡ true
    each n = rw (settled.no_seq n, settled.none_ready n) refl
