use Rattle.std.proofs.Common.{◌≡◌, ℕ, zero, suc, ◌+◌, ◌-◌, ◌*◌, ◌^◌, ◌<◌, ◌≤◌, true, List, length, take, get_or, ap, ◌∙◌, arith}
use Rattle.std.proofs.Math.Nat.{pow-succ'}
use Rattle.std.proofs.lemmas.List.Sums.{fold_more}
use Rattle.std.proofs.lemmas.Bool.Decides.{nat_tests}
use Rattle.beep_chars.specs.Characters.{is_digit}
use Rattle.beep_text.specs.Elements.{number_of, digit_of}

-- powers grow
power_grows : (i k : ℕ) → 10 ^ i ≤ 10 ^ (k + i)
power_grows i zero =
    let same : 0 + i ≡ i = omega arith in
    omega (arith, ap (λ n. 10 ^ n) same)
power_grows i (suc k) =
    let next : suc k + i ≡ suc (k + i) = omega arith in
    omega (arith, power_grows i k, ap (λ n. 10 ^ n) next, pow-succ' 10 (k + i))

-- nine digits are few
pub few : (i : ℕ) → i < 10 → 10 ^ i ≤ 1000000000
few i small =
    let whole : 9 - i + i ≡ 9 = omega arith in
    omega (arith, power_grows i (9 - i), ap (λ n. 10 ^ n) whole)

pub power_next : (i : ℕ) → 10 ^ (i + 1) ≡ 10 * 10 ^ i
power_next i = let next : i + 1 ≡ suc i = omega arith in ap (λ n. 10 ^ n) next ∙ pow-succ' 10 i

pub digit_value : (c : ℕ) → is_digit c ≡ true → (digit_of c ≡ c - 48) × (c < 58) × (48 ≤ c)
digit_value c is = (grind (arith, nat_tests), grind (arith, nat_tests), grind (arith, nat_tests))

pub number_of-more : (xs : List ℕ) (i d : ℕ) → i < length xs → number_of 10 (take (i + 1) xs) ≡ 10 * number_of 10 (take i xs) + digit_of (get_or xs i d)
number_of-more xs i d within = fold_more (λ n c. 10 * n + digit_of c) 0 xs i d within
