-- Decimal text, from its last digit on.
use Rattle.std.proofs.Common.{◌≡◌, ◌+◌, ◌<◌, ◌≤◌, ◌^◌, ◌/◌, ◌%◌, [], ◌∷◌, ◌++◌, List, ℕ, length, sym, ap, refl, ◌∙◌, append_assoc, arith}
use Rattle.std.specs.Fmt.{decimal}
use Rattle.std.proofs.lemmas.Fmt.{decimal_digit, decimal_step, decimal_nonempty}
use Rattle.std.proofs.lemmas.List.{length-append}

-- a number of one digit stands before others
pub one_digit : (n d : ℕ) (old : List ℕ) → n < 10 → d ≡ 48 + n → d ∷ old ≡ decimal n ++ old
one_digit n d old few is = ap (λ x. x ∷ old) is ∙ sym (ap (λ ds. ds ++ old) (decimal_digit n few))

-- the last digit and then the others stand before others
pub more_digits : (n d : ℕ) (old : List ℕ) → 10 ≤ n → n < 2 ^ 64 → d ≡ 48 + n % 10
    → decimal (n / 10) ++ d ∷ old ≡ decimal n ++ old
more_digits n d old many small is =
    ap (λ x. decimal (n / 10) ++ x ∷ old) is
    ∙ sym (ap (λ ds. ds ++ old) (decimal_step n many small) ∙ append_assoc (decimal (n / 10)) ((48 + n % 10) ∷ []) old)

-- a number has one digit more than its tenth
pub digits_more : (n : ℕ) → 10 ≤ n → n < 2 ^ 64 → length (decimal (n / 10)) + 1 ≡ length (decimal n)
digits_more n many small =
    sym (ap length (decimal_step n many small) ∙ length-append (decimal (n / 10)) ((48 + n % 10) ∷ []))

-- a number of two digits stands before others
pub two_digits : (n : ℕ) (old : List ℕ) → 10 ≤ n → n < 100
    → (48 + n / 10) ∷ (48 + n % 10) ∷ old ≡ decimal n ++ old
two_digits n old many few =
    one_digit (n / 10) (48 + n / 10) ((48 + n % 10) ∷ old) (omega (arith, few)) refl
    ∙ more_digits n (48 + n % 10) old many (omega (arith, few)) refl

-- the last two digits and then the others stand before others
pub pair_more : (n : ℕ) (old : List ℕ) → 100 ≤ n → n < 2 ^ 64
    → decimal (n / 100) ++ (48 + n % 100 / 10) ∷ (48 + n % 100 % 10) ∷ old ≡ decimal n ++ old
pair_more n old many small =
    let hundreds : n / 100 ≡ n / 10 / 10 = omega arith in
    let tens : n % 100 / 10 ≡ n / 10 % 10 = omega arith in
    let ones : n % 100 % 10 ≡ n % 10 = omega arith in
    rw (hundreds, tens, ones)
    (more_digits (n / 10) (48 + n / 10 % 10) ((48 + n % 10) ∷ old) (omega (arith, many)) (omega (arith, small)) refl
    ∙ more_digits n (48 + n % 10) old (omega (arith, many)) small refl)

-- a number of two digits has two octets
pub two_at_least : (n : ℕ) → 10 ≤ n → n < 2 ^ 64 → 2 ≤ length (decimal n)
two_at_least n many small = omega (arith, digits_more n many small, decimal_nonempty (n / 10) (omega (arith, small)))

-- a number has two digits more than its hundredth
pub pair_longer : (n : ℕ) → 100 ≤ n → n < 2 ^ 64 → length (decimal (n / 100)) + 2 ≡ length (decimal n)
pair_longer n many small =
    let hundreds : n / 100 ≡ n / 10 / 10 = omega arith in
    rw hundreds (omega (arith, digits_more n (omega (arith, many)) small, digits_more (n / 10) (omega (arith, many)) (omega (arith, small))))
