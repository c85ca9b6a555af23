-- How an octet is written, test by test.
use Rattle.std.proofs.Common.{◌≡◌, ℕ, suc, ◌+◌, ◌*◌, ◌/◌, ◌%◌, ◌<◌, ◌≤◌, ◌==◌, Bool, true, false, ◌&&◌, cond, nat_lt, get_or, List, [], ◌∷◌, ◌++◌, length, take, drop, take-append-drop, refl, sym, ap, ap₂, ◌∙◌, arith}
use Rattle.std.specs.Fmt.{decimal}
use Rattle.std.proofs.lemmas.Fmt.{decimal_digit, decimal_step}
use Rattle.std.proofs.lemmas.Bool.Decides.{nat_tests}
use Rattle.std.proofs.Math.Seq.{take-append-add}
use Rattle.std.proofs.lemmas.List.{flat_map_more, length-take-le}
use Rattle.std.proofs.lemmas.List.Folds.{list_all-append}
use Rattle.beep_record.specs.Record.{is_plain, hex_digit, octet_text, octets_text, are_octets}
use Rattle.beep_record.specs.Machine.{is_hex, digit_of, is_hexed, is_high}

pub by_test : {A : Type 0} (P : A → Type 0) (b : Bool) {x y : A} → (b ≡ true → P x) → (b ≡ false → P y) → P (cond b x y)
by_test P true first second = first refl
by_test P false first second = second refl

-- a test holds or not
pub decide : {A : Type 0} (b : Bool) → (b ≡ true → A) → (b ≡ false → A) → A
decide true first second = first refl
decide false first second = second refl

pub some_of : (n : ℕ) → (n == 0) ≡ false → 0 < n
some_of n is = grind (arith, nat_tests)

pub left_of : (a b : Bool) → (a && b) ≡ true → a ≡ true
left_of true b _ = refl
left_of false b is = is

pub right_of : (a b : Bool) → (a && b) ≡ true → b ≡ true
right_of true b is = is
right_of false b is = absurd (cc is)

pub both : (a b : Bool) → a ≡ true → b ≡ true → (a && b) ≡ true
both true b _ is = is
both false b is _ = is

-- ---- digits

pub hex_is_hex : (n : ℕ) → n < 16 → is_hex (hex_digit n) ≡ true
hex_is_hex n small = grind (arith, nat_tests)

pub digit_of-hex_digit : (n : ℕ) → n < 16 → digit_of (hex_digit n) ≡ n
digit_of-hex_digit n small = grind (arith, nat_tests)

pub hex_digit-digit_of : (octet : ℕ) → is_hex octet ≡ true → hex_digit (digit_of octet) ≡ octet
hex_digit-digit_of octet is = grind (arith, nat_tests)

pub digit_of_small : (octet : ℕ) → is_hex octet ≡ true → digit_of octet < 16
digit_of_small octet is = grind (arith, nat_tests)

pub hex_no_letter : (n k : ℕ) → n < 16 → 102 < k → (hex_digit n == k) ≡ false
hex_no_letter n k small letter = grind (arith, nat_tests)

pub hex_no_slash : (n : ℕ) → n < 16 → (hex_digit n == 92) ≡ false
hex_no_slash n small = grind (arith, nat_tests)

-- ---- octets

pub plain_text : (octet : ℕ) → is_plain octet ≡ true → octet_text octet ≡ octet ∷ []
unfolding octet_text
plain_text octet is = rw is refl

pub hexed_text : (octet : ℕ) → is_hexed octet ≡ true → octet_text octet ≡ 92 ∷ hex_digit (octet / 16) ∷ hex_digit (octet % 16) ∷ []
unfolding octet_text
hexed_text octet is =
    let plain : is_plain octet ≡ false = grind (arith, nat_tests) in
    let cr : (octet == 13) ≡ false = grind (arith, nat_tests) in
    let lf : (octet == 10) ≡ false = grind (arith, nat_tests) in
    let slash : (octet == 92) ≡ false = grind (arith, nat_tests) in
    rw (plain, cr, lf, slash) refl

pub two_digits : (high low octet : ℕ) → octet ≡ 16 * high + low → low < 16 → is_hexed octet ≡ true → octet_text octet ≡ 92 ∷ hex_digit high ∷ hex_digit low ∷ []
two_digits high low octet is small hexed =
    let upper : octet / 16 ≡ high = omega arith in
    let lower : octet % 16 ≡ low = omega arith in
    hexed_text octet hexed ∙ ap₂ (λ h l. 92 ∷ hex_digit h ∷ hex_digit l ∷ []) upper lower

-- an octet is plain, one of three that have a letter, or written by digits
pub hexed_else : (octet : ℕ) → is_plain octet ≡ false → (octet == 13) ≡ false → (octet == 10) ≡ false → (octet == 92) ≡ false → is_hexed octet ≡ true
hexed_else octet plain cr lf slash = grind (arith, nat_tests)

pub high_digit : (octet : ℕ) → is_hexed octet ≡ true → is_high (octet / 16) ≡ true
high_digit octet is = grind (arith, nat_tests)

pub octets_text-push : (octets : List ℕ) (octet : ℕ) → octets_text octets ++ octet_text octet ≡ octets_text (octets ++ octet ∷ [])
octets_text-push octets octet = flat_map_more octet_text [] octets octet

pub octet_below : (octet : ℕ) → nat_lt octet 256 ≡ true → octet < 256
octet_below octet is = grind (arith, nat_tests)

-- ---- a status of two digits

pub decimal-ten : decimal 1 ++ 48 ∷ [] ≡ decimal 10
decimal-ten = sym (decimal_step 10 (omega arith) (omega arith))

pub decimal-eleven : decimal 1 ++ 49 ∷ [] ≡ decimal 11
decimal-eleven = sym (decimal_step 11 (omega arith) (omega arith))

pub ten-digits : decimal 10 ≡ 49 ∷ 48 ∷ []
ten-digits = sym decimal-ten ∙ ap (λ x. x ++ 48 ∷ []) (decimal_digit 1 (omega arith))

pub eleven-digits : decimal 11 ≡ 49 ∷ 49 ∷ []
eleven-digits = sym decimal-eleven ∙ ap (λ x. x ++ 49 ∷ []) (decimal_digit 1 (omega arith))

pub hexed_high : (digit : ℕ) → is_high digit ≡ true → is_hexed (16 * digit + 15) ≡ true
hexed_high digit is = grind (arith, nat_tests)

-- ---- letters

pub letter_cr : octet_text 13 ≡ 92 ∷ 114 ∷ []
unfolding octet_text
letter_cr = refl

pub letter_lf : octet_text 10 ≡ 92 ∷ 110 ∷ []
unfolding octet_text
letter_lf = refl

pub letter_slash : octet_text 92 ≡ 92 ∷ 92 ∷ []
unfolding octet_text
letter_slash = refl

pub letter_text : (octet b k : ℕ) → b ≡ k → octet_text octet ≡ 92 ∷ k ∷ [] → 92 ∷ b ∷ [] ≡ octet_text octet
letter_text octet b k same is = ap (λ x. 92 ∷ x ∷ []) same ∙ sym is

pub octet_small : (octet : ℕ) → octet < 256 → nat_lt octet 256 ≡ true
octet_small octet small = grind (arith, nat_tests)

-- ---- lists of octets

-- what a slice holds are octets
pub are_octets_of : (octets : List ℕ) → ((i : ℕ) → get_or octets i 0 < 256) → are_octets octets ≡ true
are_octets_of [] each = refl
are_octets_of (octet ∷ octets) each = both _ _ (octet_small octet (each 0)) (are_octets_of octets (λ i. each (suc i)))

pub are_right : (xs ys : List ℕ) → are_octets (xs ++ ys) ≡ true → are_octets ys ≡ true
are_right xs ys are = right_of (are_octets xs) _ (sym (list_all-append (λ octet. nat_lt octet 256) xs ys) ∙ are)

pub are_left : (xs ys : List ℕ) → are_octets (xs ++ ys) ≡ true → are_octets xs ≡ true
are_left xs ys are = left_of (are_octets xs) _ (sym (list_all-append (λ octet. nat_lt octet 256) xs ys) ∙ are)

-- so many octets more
pub more_text : (text : List ℕ) (i count : ℕ) → i ≤ length text → take i text ++ take count (drop i text) ≡ take (i + count) text
more_text text i count within =
    sym (ap (take (i + count)) (sym (take-append-drop i text)) ∙ ap (λ n. take (n + count) (take i text ++ drop i text)) (sym (length-take-le i text within))
    ∙ take-append-add (take i text) (drop i text) count)
