use Rattle.std.proofs.Common.{◌≡◌, ℕ, ◌+◌, ◌*◌, ◌/◌, ◌%◌, ◌^◌, ◌<◌, ◌≤◌, ◌==◌, true, false, ◌||◌, not, cond, nat_lt, List, [], ◌∷◌, ◌++◌, length, slice_index, Some, None, refl, ap, ◌∙◌, arith, lt-ltb, ltb-true, ltb-false, ne_eqb, le-leb}
use Rattle.std.specs.List.{list_all}
use Rattle.std.specs.Fmt.{decimal}
use Rattle.std.proofs.lemmas.Fmt.{decimal_by_steps, decimal_digit, first_decimal, length-decimal-le, decimal_nonempty}
use Rattle.std.proofs.lemmas.List.Folds.{list_all-append}
use Rattle.std.proofs.lemmas.List.Sums.{fold_push}
use Rattle.std.proofs.Math.Bool.{or-true}
use Rattle.std.proofs.lemmas.Bool.Decides.{nat_tests}
use Rattle.beep_chars.specs.Characters.{is_digit, is_allowed}
use Rattle.beep_text.specs.Elements.{number_of, digit_of}
use Rattle.beep_mgmt.specs.Said.{is_number, number_said, code_said}
use Rattle.beep_mgmt.specs.Written.{code_digits}
use Rattle.beep_chars.proofs.BoolLemmas.{both, left_of, right_of}

-- ---- numbers

abbrev Spells : ℕ → List ℕ → Type 0
Spells n ds = (list_all is_digit ds ≡ true) × (number_of 10 ds ≡ n)

digit-is : (d : ℕ) → d < 10 → is_digit (48 + d) ≡ true
digit-is d small = grind (arith, nat_tests)

digit-value : (d : ℕ) → d < 10 → digit_of (48 + d) ≡ d
digit-value d small = grind (arith, nat_tests)

one_digit : (m : ℕ) → m < 10 → Spells m ((48 + m) ∷ [])
one_digit m small = (both (is_digit (48 + m)) true (digit-is m small) refl, omega (arith, digit-value m small))

more_digits : (m : ℕ) (ds : List ℕ) → 10 ≤ m → Spells (m / 10) ds → Spells m (ds ++ (48 + m % 10) ∷ [])
more_digits m ds large is =
    let last = 48 + m % 10 in (
      list_all-append is_digit ds (last ∷ []) ∙ both _ _ is.0 (both (is_digit last) true (digit-is (m % 10) (omega arith)) refl),
      fold_push (λ n c. 10 * n + digit_of c) 0 ds last ∙ omega (arith, is.1, digit-value (m % 10) (omega arith)),
    )

pub decimal_spells : (n : ℕ) → n < 2 ^ 64 → Spells n (decimal n)
decimal_spells n small = decimal_by_steps Spells one_digit more_digits n small

digit-allowed : (c : ℕ) → is_digit c ≡ true → is_allowed c ≡ true
digit-allowed c is = grind (arith, nat_tests)

digits-allowed : (ds : List ℕ) → list_all is_digit ds ≡ true → list_all is_allowed ds ≡ true
digits-allowed [] are = refl
digits-allowed (d ∷ ds) are = both _ _ (digit-allowed d (left_of (is_digit d) _ are)) (digits-allowed ds (right_of (is_digit d) _ are))

-- a number has no leading zero
no_zero : (n : ℕ) → n < 2 ^ 32 → (length (decimal n) == 1 || not (slice_index (decimal n) 0 == 48)) ≡ true
no_zero n small = elim (nat_lt n 10) as (λ b. nat_lt n 10 ≡ b → (length (decimal n) == 1 || not (slice_index (decimal n) 0 == 48)) ≡ true) [
  | true ↦ λ is. ap (λ ds. length ds == 1 || not (slice_index ds 0 == 48)) (decimal_digit n (ltb-true n 10 is))
  | false ↦ λ is.
      (let large = ltb-false n 10 is in
      let first = first_decimal n (omega (arith, large)) (omega arith) in
      ap (λ b. length (decimal n) == 1 || not b) (ne_eqb (slice_index (decimal n) 0) 48 (λ e. omega (arith, first, e))) ∙ or-true (length (decimal n) == 1))
] refl

pub is_number-decimal : (n : ℕ) → n < 2 ^ 32 → is_number (decimal n) ≡ true
is_number-decimal n small =
    let spells = decimal_spells n (omega arith) in
    let some = decimal_nonempty n (omega arith) in
    let few = length-decimal-le 10 n (omega arith) (omega arith) (omega arith) in
    both _ _ (both _ _ (both _ _ (both _ _ spells.0 (lt-ltb 0 (length (decimal n)) some)) (le-leb (length (decimal n)) 10 few)) (no_zero n small))
    (lt-ltb (number_of 10 (decimal n)) (2 ^ 32) (omega (arith, spells.1)))

pub number_back : (n : ℕ) → n < 2 ^ 32 → number_said (Some (decimal n)) ≡ Some n
number_back n small =
    ap (λ b. cond b (Some (number_of 10 (decimal n))) None) (is_number-decimal n small) ∙ ap (λ m. Some m) (decimal_spells n (omega arith)).1

code_digit : (d : ℕ) → d < 10 → (is_digit (d + 48) ≡ true) × (digit_of (d + 48) ≡ d)
code_digit d small = (grind (arith, nat_tests), grind (arith, nat_tests))

-- a code is written in digits
pub code-digits : (n : ℕ) → n ≤ 999 → list_all is_digit (code_digits n) ≡ true
code-digits n small =
    let hundreds = code_digit (n / 100) (omega arith) in
    let tens = code_digit (n / 10 % 10) (omega arith) in
    let ones = code_digit (n % 10) (omega arith) in
    both (is_digit (n / 100 + 48)) _ hundreds.0 (both (is_digit (n / 10 % 10 + 48)) _ tens.0 (both (is_digit (n % 10 + 48)) true ones.0 refl))

pub code_back : (n : ℕ) → n ≤ 999 → code_said (Some (code_digits n)) ≡ Some n
code_back n small =
    let hundreds = code_digit (n / 100) (omega arith) in
    let tens = code_digit (n / 10 % 10) (omega arith) in
    let ones = code_digit (n % 10) (omega arith) in
    ap (λ b. cond b (Some (number_of 10 (code_digits n))) None) (code-digits n small) ∙ ap (λ m. Some m) (omega (arith, hundreds.1, tens.1, ones.1))

pub decimal-allowed : (n : ℕ) → n < 2 ^ 32 → list_all is_allowed (decimal n) ≡ true
decimal-allowed n small = digits-allowed (decimal n) (decimal_spells n (omega arith)).0

pub code-allowed : (n : ℕ) → n ≤ 999 → list_all is_allowed (code_digits n) ≡ true
code-allowed n small = digits-allowed (code_digits n) (code-digits n small)
