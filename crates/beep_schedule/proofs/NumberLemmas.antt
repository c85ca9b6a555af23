-- Numbers as words.
use Rattle.std.proofs.Common.{◌≡◌, ℕ, ◌<◌, ◌^◌, Bool, true, false, ◌&&◌, nat_lt, cond, List, Some, None, refl, ap, sym, ◌∙◌, subst, arith}
use Rattle.std.specs.declared.result.Result.{Result}
use Rattle.std.specs.declared.result.Result.TheVariants.{Ok}
use Rattle.std.specs.Fmt.{decimal}
use Rattle.std.specs.Str.{bytes_eq, IsUtf8}
use Rattle.std.specs.Str.Parse.{digits_value, ParsesUnsigned}
use Rattle.std.proofs.lemmas.Fmt.{parse-decimal, decimal_is_IsNumeral, IsAscii-decimal}
use Rattle.std.proofs.lemmas.Str.{IsUtf8-from_ascii}
use Rattle.std.proofs.lemmas.Slice.Eq.{bytes_eq-Decides}
use Rattle.std.proofs.lemmas.Bool.Decides.{nat_tests}
use Rattle.beep_schedule.specs.Reading.{number_in}

-- the test of a number
abbrev test : List ℕ → Bool
test word = bytes_eq word (decimal (digits_value 10 word)) && nat_lt (digits_value 10 word) (2 ^ 32)

-- what the test says
said : (word : List ℕ) → test word ≡ true → (word ≡ decimal (digits_value 10 word)) × (digits_value 10 word < 2 ^ 32)
said word e =
    let same : bytes_eq word (decimal (digits_value 10 word)) ≡ true = grind (arith, nat_tests) in
    let most : digits_value 10 word < 2 ^ 32 = grind (arith, nat_tests) in
    ((bytes_eq-Decides word (decimal (digits_value 10 word))).0 same, most)

-- a word that is no number's text is no number
none_if : (word : List ℕ) → ((n : ℕ) → n < 2 ^ 32 → word ≡ decimal n → ⊥) → number_in word ≡ None
none_if word never = by_test (test word) refl
  where
    by_test : (b : Bool) → test word ≡ b → number_in word ≡ None
    by_test true e = let is = said word e in absurd (never (digits_value 10 word) is.1 is.0)
    by_test false e = ap (λ (b : Bool). cond b (Some (digits_value 10 word)) None) e

pub none_bare : (word : List ℕ) → ¬ (IsUtf8 word) → number_in word ≡ None
none_bare word other = none_if word (λ n small is. other (utf8 n small is))
  where
    utf8 : (n : ℕ) → n < 2 ^ 32 → word ≡ decimal n → IsUtf8 word
    utf8 n small is = subst (λ w. IsUtf8 w) (sym is) (IsUtf8-from_ascii (decimal n) (IsAscii-decimal n (omega (arith, small))))

pub none_in : {E : Type 0} (word : List ℕ) (r : Result ℕ E) → ParsesUnsigned 32 10 word r → ((n : ℕ) → word ≡ decimal n → r ≡ Ok n → ⊥) → number_in word ≡ None
none_in word r p never = none_if word (λ n small is. never n is (parse-decimal 32 n word r (omega (arith, small)) (omega (arith, small)) is p))

pub some_in : (word : List ℕ) (n : ℕ) → n < 2 ^ 32 → word ≡ decimal n → number_in word ≡ Some n
some_in word n small e =
    let v : digits_value 10 word ≡ n = ap (digits_value 10) e ∙ (decimal_is_IsNumeral n (omega (arith, small))).1 in
    let same : bytes_eq word (decimal (digits_value 10 word)) ≡ true = (bytes_eq-Decides word (decimal (digits_value 10 word))).1 (e ∙ ap decimal (sym v)) in
    let all : test word ≡ true = grind (arith, nat_tests) in
    ap (λ (b : Bool). cond b (Some (digits_value 10 word)) None) all ∙ ap (λ k. Some k) v

pub number_said : (word : List ℕ) (n : ℕ) → number_in word ≡ Some n → (word ≡ decimal n) × (n < 2 ^ 32)
number_said word n e = by_test (test word) refl
  where
    by_test : (b : Bool) → test word ≡ b → (word ≡ decimal n) × (n < 2 ^ 32)
    by_test true f =
        let is = said word f in
        let some : Some (digits_value 10 word) ≡ Some n = ap (λ (b : Bool). cond b (Some (digits_value 10 word)) None) (sym f) ∙ e in
        let same : digits_value 10 word ≡ n = cc in
        (is.0 ∙ ap decimal same, omega (arith, is.1, same))
    by_test false f =
        let none : None ≡ Some n = ap (λ (b : Bool). cond b (Some (digits_value 10 word)) None) (sym f) ∙ e in
        cc

pub number_word : (n : ℕ) → n < 2 ^ 32 → number_in (decimal n) ≡ Some n
number_word n small = some_in (decimal n) n small refl
