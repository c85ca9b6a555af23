-- The numbers that are live, by the moments of channel zero, each once.
use Rattle.std.proofs.Common.{◌≡◌, ◌∙◌, refl, sym, ap, subst, ℕ, ◌==◌, ◌+◌, Bool, true, false, not, ◌&&◌, ◌||◌, if◌then◌else◌, List, [], ◌∷◌, arith}
use Rattle.std.specs.Prelude.{nat_lt}
use Rattle.std.proofs.lemmas.Bool.Decides.{nat_tests}
use Rattle.beep_peer.specs.beep_history.specs.Journal.{Item}
use Rattle.beep_peer.specs.beep_journal.specs.Lives.{Event, close_came, start_granted, close_granted, lives, has_ended, is_live}
use Rattle.beep_peer.specs.beep_journal.specs.Zero.{events}
use Rattle.beep_peer.specs.beep_journal.proofs.MomentLemmas.{equal-number, same-number}
use Rattle.beep_peer.specs.beep_decide.specs.Decide.{is_among}
use Rattle.beep_script.specs.Desk.{live_among, live_numbers}
use Rattle.beep_desk.proofs.NumberLemmas.{Distinct}

and-false : (b : Bool) → false ≡ (b && false)
and-false true = refl
and-false false = refl

-- a start leaves one life at least
started : (n : ℕ) (part : List Event) → nat_lt 0 (lives n (start_granted n ∷ part)) ≡ true
started n part = of (n == n) (same-number n) (nat_lt 0 (lives n part)) refl (not (has_ended n (lives n part) part))
  where
    more : (m : ℕ) → nat_lt 0 (m + 1) ≡ true
    more m = grind (arith, nat_tests)

    of : (b : Bool) → b ≡ true → (c : Bool) → nat_lt 0 (lives n part) ≡ c → (d : Bool)
        → nat_lt 0 (if b && not (nat_lt 0 (lives n part) && d) then lives n part + 1 else lives n part) ≡ true
    of false e c f d = absurd cc
    of true e true f true = rw f f
    of true e true f false = rw f (more (lives n part))
    of true e false f d = rw f (more (lives n part))

-- a start of another number
other : (m n : ℕ) (part : List Event) → (m == n) ≡ false → lives n (start_granted m ∷ part) ≡ lives n part
other m n part apart = ap (λ b. if b && not (nat_lt 0 (lives n part) && not (has_ended n (lives n part) part)) then lives n part + 1 else lives n part) apart

pub among-listed : (n : ℕ) (es part : List Event) → is_among n (live_among es part) ≡ (is_live n es && nat_lt 0 (lives n part))
among-listed n es [] = and-false (is_live n es)
among-listed n es (close_came side position number ∷ part) = among-listed n es part
among-listed n es (close_granted side position number ∷ part) = among-listed n es part
among-listed n es (start_granted number ∷ part) = by (number == n) refl (among-listed n es part)
  where
    xs : List ℕ
    xs = live_among es part

    own : (b : Bool) → is_live number es ≡ b → (c : Bool) → is_among number xs ≡ c → is_among number xs ≡ (is_live number es && nat_lt 0 (lives number part))
        → is_among number (if b && not c then number ∷ xs else xs) ≡ b
    own true e true f rest = f
    own true e false f rest = ap (λ x. x || is_among number xs) (same-number number)
    own false e c f rest = rest ∙ ap (λ x. x && nat_lt 0 (lives number part)) e

    and-true : (b c : Bool) → c ≡ true → b ≡ (b && c)
    and-true true true e = refl
    and-true false true e = refl
    and-true b false e = absurd cc

    skip : (b : Bool) → (number == n) ≡ false → is_among n (if b then number ∷ xs else xs) ≡ is_among n xs
    skip true apart = ap (λ x. x || is_among n xs) apart
    skip false apart = refl

    by : (b : Bool) → (number == n) ≡ b → is_among n xs ≡ (is_live n es && nat_lt 0 (lives n part))
        → is_among n (live_among es (start_granted number ∷ part)) ≡ (is_live n es && nat_lt 0 (lives n (start_granted number ∷ part)))
    by true same rest =
        let e = equal-number number n same in
        subst (λ m. is_among m (live_among es (start_granted number ∷ part)) ≡ (is_live m es && nat_lt 0 (lives m (start_granted number ∷ part)))) e
        (own (is_live number es) refl (is_among number xs) refl (subst (λ m. is_among m xs ≡ (is_live m es && nat_lt 0 (lives m part))) (sym e) rest)
        ∙ and-true (is_live number es) (nat_lt 0 (lives number (start_granted number ∷ part))) (started number part))
    by false apart rest =
        skip (is_live number es && not (is_among number xs)) apart ∙ rest ∙ ap (λ l. is_live n es && nat_lt 0 l) (sym (other number n part apart))

pub listed-distinct : (es part : List Event) → Distinct (live_among es part)
listed-distinct es [] = tt
listed-distinct es (close_came side position number ∷ part) = listed-distinct es part
listed-distinct es (close_granted side position number ∷ part) = listed-distinct es part
listed-distinct es (start_granted number ∷ part) = by (is_live number es) (is_among number (live_among es part)) refl (listed-distinct es part)
  where
    by : (b c : Bool) → is_among number (live_among es part) ≡ c → Distinct (live_among es part)
        → Distinct (if b && not c then number ∷ live_among es part else live_among es part)
    by true true e rest = rest
    by true false e rest = (e, rest)
    by false c e rest = rest

-- a number is among those that are live where it is live
pub among-numbers : (n : ℕ) (journal : List Item) → is_among n (live_numbers journal) ≡ is_live n (events journal)
among-numbers n journal =
    among-listed n (events journal) (events journal) ∙ twice (nat_lt 0 (lives n (events journal))) (not (has_ended n (lives n (events journal)) (events journal)))
  where
    twice : (b c : Bool) → ((b && c) && b) ≡ (b && c)
    twice true true = refl
    twice true false = refl
    twice false c = refl

pub numbers-distinct : (journal : List Item) → Distinct (live_numbers journal)
numbers-distinct journal = listed-distinct (events journal) (events journal)
