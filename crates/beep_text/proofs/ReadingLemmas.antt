-- What the machine does with the octets of a character.
use Rattle.std.proofs.Common.{◌≡◌, ℕ, ◌+◌, ◌-◌, ◌*◌, ◌/◌, ◌%◌, ◌<◌, ◌≤◌, ◌⊎◌, Bool, true, false, ◌&&◌, ◌||◌, not, ◌==◌, nat_lt, nat_le, if◌then◌else◌, List, [], ◌∷◌, ◌++◌, length, fold, inr, ⊎_elim, refl, sym, ap, subst, ◌∙◌, arith, eqb-true, ne_eqb, ltb-true, ltb-false, le-leb, le-ltb, lt-ltb, le_trans, one-mul, mul-le-mul_right}
use Rattle.std.specs.List.{list_all}
use Rattle.std.proofs.lemmas.Str.{encode_ascii}
use Rattle.std.proofs.lemmas.Bool.Decides.{nat_tests}
use lib.Utf8.{encode}
use Rattle.beep_text.specs.declared.mode.Letters.{Letters}
use Rattle.beep_text.specs.declared.mode.Part.{Part}
use Rattle.beep_text.specs.declared.mode.Taken.{Taken}
use Rattle.beep_chars.specs.Characters.{is_allowed, is_digit}
use Rattle.beep_text.specs.Elements.{Written, plain, named, decimal, hexadecimal, written_text, written_char, is_reference, has_reference, is_written, is_hex_digit, digit_of, number_of}
use Rattle.beep_text.specs.Machine.{allowed_taken, is_tail, grown, first_taken, base_of, is_digit_in, taken_after, char_taken, is_fresh}
use Rattle.beep_text.proofs.ElementLemmas.{left_of, right_of, both, is_false}
use Rattle.beep_text.proofs.CharLemmas.{encode_two, encode_three, encode_four}

-- the octets bring a part to a whole character, by a step
pub data Reading (f : Part → ℕ → Taken) : Part → List ℕ → ℕ → Type 0 where
  last : {part : Part} (b c : ℕ) → f part b ≡ Taken.Whole c → Reading f part (b ∷ []) c
  more : {part : Part} (b c : ℕ) (bs : List ℕ) (next : Part) → f part b ≡ Taken.More next → is_fresh next ≡ false → Reading f next bs c → Reading f part (b ∷ bs) c

allowed_whole : (c d : ℕ) → c ≡ d → is_allowed d ≡ true → allowed_taken c ≡ Taken.Whole d
allowed_whole c d same allowed = ap allowed_taken same ∙ (rw allowed refl)

tail_of : (n : ℕ) → is_tail (128 + n % 64) ≡ true
tail_of n = both _ _ (le-leb 128 (128 + n % 64) (omega arith)) (lt-ltb (128 + n % 64) 192 (omega arith))

allowed_high : (c : ℕ) → is_allowed c ≡ true → c ≤ 0x10FFFF
allowed_high c is = grind (arith, nat_tests)

scalar_of : (c : ℕ) → is_allowed c ≡ true → (c / 64 < 864) ⊎ (896 ≤ c / 64)
scalar_of c is = grind (arith, nat_tests)

lt-leb-false : (w k : ℕ) → w < k → nat_le k w ≡ false
lt-leb-false w k low = grind (arith, nat_tests)

-- ---- characters above one octet, by steps that are those of the octets

pub first_high : (b : ℕ) → 128 ≤ b → char_taken Part.Fresh b ≡ first_taken b
first_high b high = rw (ne_eqb b 38 (λ same. absurd (omega (arith, same)))) refl

module _ (f : Part → ℕ → Taken) (first : (b : ℕ) → 128 ≤ b → f Part.Fresh b ≡ first_taken b)
    (one : (v b : ℕ) → f (Part.One v) b ≡ taken_after (Part.One v) b) (two : (v b : ℕ) → f (Part.Two v) b ≡ taken_after (Part.Two v) b) (three : (v b : ℕ) → f (Part.Three v) b ≡ taken_after (Part.Three v) b) where
  pub reads_one : (v b c : ℕ) → is_tail b ≡ true → grown v b ≡ c → is_allowed c ≡ true → Reading f (Part.One v) (b ∷ []) c
  reads_one v b c tail same allowed = last b c (one v b ∙ (rw tail (allowed_whole (grown v b) c same allowed)))

  pub reads_two : (v b d w c : ℕ) → is_tail b ≡ true → is_tail d ≡ true → grown v b ≡ w → 32 ≤ w → w < 17408 → (w < 864) ⊎ (896 ≤ w) → grown w d ≡ c → is_allowed c ≡ true → Reading f (Part.Two v) (b ∷ d ∷ []) c
  reads_two v b d w c tail tail2 same over under scalar same2 allowed = more b c (d ∷ []) (Part.One w)
      (two v b ∙ (rw (tail, same, le-leb 32 w over, lt-ltb w 17408 under) (⊎_elim (λ low. rw (leb_less w 864 low) refl) (λ high. (rw (le-ltb w 896 high) (stays_false (nat_le 864 w) (Part.One w)))) scalar)))
      refl (reads_one w d c tail2 same2 allowed)
    where
      leb_less : (w k : ℕ) → w < k → nat_le k w ≡ false
      leb_less w k low = lt-leb-false w k low

      stays_false : (x : Bool) (p : Part) → (if not (x && false) then Taken.More p else Taken.Dead) ≡ Taken.More p
      stays_false true p = refl
      stays_false false p = refl

  pub reads_three : (v b d e w u c : ℕ) → is_tail b ≡ true → is_tail d ≡ true → is_tail e ≡ true → grown v b ≡ w → 16 ≤ w → w < 272 → grown w d ≡ u → 32 ≤ u → u < 17408 → (u < 864) ⊎ (896 ≤ u) → grown u e ≡ c
      → is_allowed c ≡ true → Reading f (Part.Three v) (b ∷ d ∷ e ∷ []) c
  reads_three v b d e w u c tail tail2 tail3 same over under same2 over2 under2 scalar same3 allowed = more b c (d ∷ e ∷ []) (Part.Two w)
      (three v b ∙ (rw (tail, same, le-leb 16 w over, lt-ltb w 272 under) refl)) refl (reads_two w d e u c tail2 tail3 same2 over2 under2 scalar same3 allowed)

  -- the octets of a character above one octet
  pub reads_high : (c : ℕ) → is_allowed c ≡ true → 128 ≤ c → Reading f Part.Fresh (encode c) c
  reads_high c allowed high =
      elim (nat_lt c 2048) as (λ x. nat_lt c 2048 ≡ x → Reading f Part.Fresh (encode c) c) [
        | true ↦ λ is. low (ltb-true c 2048 is)
        | false ↦ λ is. elim (nat_lt c 65536) as (λ x. nat_lt c 65536 ≡ x → Reading f Part.Fresh (encode c) c) [
          | true ↦ λ is2. middle (ltb-false c 2048 is) (ltb-true c 65536 is2)
          | false ↦ λ is2. top (ltb-false c 65536 is2)
        ] refl
      ] refl
    where
      low : c < 2048 → Reading f Part.Fresh (encode c) c
      low under = subst (λ (bs : List ℕ). Reading f Part.Fresh bs c) (sym (encode_two c high under))
          (more (192 + c / 64) c ((128 + c % 64) ∷ []) (Part.One (192 + c / 64 - 192))
          (first (192 + c / 64) (omega arith) ∙ (rw (le-ltb (192 + c / 64) 128 (omega arith), le-ltb (192 + c / 64) 194 (omega arith), lt-ltb (192 + c / 64) 224 (omega arith)) refl)) refl
          (reads_one (192 + c / 64 - 192) (128 + c % 64) c (tail_of c) (omega arith) allowed))

      middle : 2048 ≤ c → c < 65536 → Reading f Part.Fresh (encode c) c
      middle over under = subst (λ (bs : List ℕ). Reading f Part.Fresh bs c) (sym (encode_three c over under))
          (more (224 + c / 4096) c ((128 + (c / 64) % 64) ∷ (128 + c % 64) ∷ []) (Part.Two (224 + c / 4096 - 224))
          (first (224 + c / 4096) (omega arith)
          ∙ (rw (le-ltb (224 + c / 4096) 128 (omega arith), le-ltb (224 + c / 4096) 194 (omega arith), le-ltb (224 + c / 4096) 224 (omega arith), lt-ltb (224 + c / 4096) 240 (omega arith)) refl)) refl
          (reads_two (224 + c / 4096 - 224) (128 + (c / 64) % 64) (128 + c % 64) (c / 64) c (tail_of (c / 64)) (tail_of c) (omega arith) (omega arith) (omega arith) (scalar_of c allowed) (omega arith) allowed))

      top : 65536 ≤ c → Reading f Part.Fresh (encode c) c
      top over =
          let small = allowed_high c allowed in
          subst (λ (bs : List ℕ). Reading f Part.Fresh bs c) (sym (encode_four c over))
          (more (240 + c / 262144) c ((128 + (c / 4096) % 64) ∷ (128 + (c / 64) % 64) ∷ (128 + c % 64) ∷ []) (Part.Three (240 + c / 262144 - 240))
          (first (240 + c / 262144) (omega arith)
          ∙ (rw (le-ltb (240 + c / 262144) 128 (omega arith), le-ltb (240 + c / 262144) 194 (omega arith), le-ltb (240 + c / 262144) 224 (omega arith), le-ltb (240 + c / 262144) 240 (omega arith), lt-ltb (240 + c / 262144) 245 (omega arith)) refl)) refl
          (reads_three (240 + c / 262144 - 240) (128 + (c / 4096) % 64) (128 + (c / 64) % 64) (128 + c % 64) (c / 4096) (c / 64) c (tail_of (c / 4096)) (tail_of (c / 64)) (tail_of c)
          (omega arith) (omega arith) (omega arith) (omega arith) (omega arith) (omega arith) (inr (omega arith)) (omega arith) allowed))

-- ---- any character that is written

pub low_first : (b : ℕ) → b < 128 → is_allowed b ≡ true → first_taken b ≡ Taken.Whole b
low_first b low allowed = rw (lt-ltb b 128 low, allowed) refl

number_goes : (base : ℕ) → 1 ≤ base → (n : ℕ) (digits : List ℕ) → n ≤ fold (λ m c. base * m + digit_of c) n digits
number_goes base some n [] = omega arith
number_goes base some n (d ∷ digits) =
    le_trans (le_trans (ap_le base some n) (omega arith)) (number_goes base some (base * n + digit_of d) digits)
  where
    ap_le : (base : ℕ) → 1 ≤ base → (n : ℕ) → n ≤ base * n
    ap_le base some n = subst (λ x. x ≤ base * n) (one-mul n) (mul-le-mul_right n some)

digit_apart : (hex : Bool) (d : ℕ) → is_digit_in hex d ≡ true → ((d == 59) ≡ false) × ((d == 120 && not hex) ≡ false)
digit_apart true d is = (grind (arith, nat_tests), grind (arith, nat_tests))
digit_apart false d is = (grind (arith, nat_tests), grind (arith, nat_tests))

base_some : (hex : Bool) → 1 ≤ base_of hex
base_some true = omega arith
base_some false = omega arith

and_more : (x y : Bool) → x ≡ false → (x && y) ≡ false
and_more x y is = rw is refl

-- digits and the end of a number
pub reads_digits : (hex any : Bool) (n : ℕ) (digits : List ℕ) (c : ℕ) → list_all (is_digit_in hex) digits ≡ true → (any || nat_lt 0 (length digits)) ≡ true → fold (λ m d. base_of hex * m + digit_of d) n digits ≡ c
    → is_allowed c ≡ true → Reading char_taken (Part.Number hex any n) (digits ++ 59 ∷ []) c
reads_digits hex true n [] c are some value allowed = last 59 c (allowed_whole n c value allowed)
reads_digits hex false n [] c are some value allowed = absurd (cc some)
reads_digits hex any n (d ∷ digits) c are some value allowed =
    let digit = left_of (is_digit_in hex d) _ are in
    let apart = digit_apart hex d digit in
    let next = base_of hex * n + digit_of d in
    let small : next ≤ 0x10FFFF = (let under = number_goes (base_of hex) (base_some hex) next digits in let top = allowed_high c allowed in le_trans under (subst (λ x. x ≤ 0x10FFFF) (sym value) top)) in
    more d c (digits ++ 59 ∷ []) (Part.Number hex true next)
    (rw (apart.0, and_more _ (not any) apart.1, digit, le-leb next 0x10FFFF small) refl) refl
    (reads_digits hex true next digits c (right_of (is_digit_in hex d) _ are) refl value allowed)

-- each of the five names
pub named_cases : (c : ℕ) → has_reference c ≡ true → (P : ℕ → Type 0) → P 60 → P 62 → P 38 → P 39 → P 34 → P c
named_cases c is P lt gt amp apos quot =
    or_case (c == 60 || c == 62 || c == 38 || c == 39) (c == 34) is (λ four.
    or_case (c == 60 || c == 62 || c == 38) (c == 39) four (λ three.
    or_case (c == 60 || c == 62) (c == 38) three (λ two.
    or_case (c == 60) (c == 62) two (λ e. subst P (sym (eqb-true c 60 e)) lt) (λ e. subst P (sym (eqb-true c 62 e)) gt)) (λ e. subst P (sym (eqb-true c 38 e)) amp))
    (λ e. subst P (sym (eqb-true c 39 e)) apos)) (λ e. subst P (sym (eqb-true c 34 e)) quot)
  where
    or_case : (x y : Bool) → (x || y) ≡ true → (x ≡ true → P c) → (y ≡ true → P c) → P c
    or_case true y e first second = first refl
    or_case false y e first second = second e

reads_named : (c : ℕ) → has_reference c ≡ true → Reading char_taken Part.Fresh (written_text (named c)) c
reads_named c is = named_cases c is (λ x. Reading char_taken Part.Fresh (written_text (named x)) x)
    (more 38 60 _ (Part.Name Letters.Empty) refl refl (more 108 60 _ (Part.Name Letters.L) refl refl (more 116 60 _ (Part.Name Letters.Lt) refl refl (last 59 60 refl))))
    (more 38 62 _ (Part.Name Letters.Empty) refl refl (more 103 62 _ (Part.Name Letters.G) refl refl (more 116 62 _ (Part.Name Letters.Gt) refl refl (last 59 62 refl))))
    (more 38 38 _ (Part.Name Letters.Empty) refl refl (more 97 38 _ (Part.Name Letters.A) refl refl (more 109 38 _ (Part.Name Letters.Am) refl refl (more 112 38 _ (Part.Name Letters.Amp) refl refl (last 59 38 refl)))))
    (more 38 39 _ (Part.Name Letters.Empty) refl refl (more 97 39 _ (Part.Name Letters.A) refl refl (more 112 39 _ (Part.Name Letters.Ap) refl refl (more 111 39 _ (Part.Name Letters.Apo) refl refl (more 115 39 _ (Part.Name Letters.Apos) refl refl (last 59 39 refl))))))
    (more 38 34 _ (Part.Name Letters.Empty) refl refl (more 113 34 _ (Part.Name Letters.Q) refl refl (more 117 34 _ (Part.Name Letters.Qu) refl refl (more 111 34 _ (Part.Name Letters.Quo) refl refl (more 116 34 _ (Part.Name Letters.Quot) refl refl (last 59 34 refl))))))

-- a plain character, where it isn't `&`
pub reads_plain : (c : ℕ) → is_allowed c ≡ true → (c == 38) ≡ false → Reading char_taken Part.Fresh (encode c) c
reads_plain c allowed amp = elim (nat_lt c 128) as (λ x. nat_lt c 128 ≡ x → Reading char_taken Part.Fresh (encode c) c) [
  | true ↦ λ is. subst (λ (bs : List ℕ). Reading char_taken Part.Fresh bs c) (sym (encode_ascii c (ltb-true c 128 is))) (last c c (rw amp (low_first c (ltb-true c 128 is) allowed)))
  | false ↦ λ is. reads_high char_taken first_high (λ v b. refl) (λ v b. refl) (λ v b. refl) c allowed (ltb-false c 128 is)
] refl

-- the same where no reference is read
pub reads_section : (c : ℕ) → is_allowed c ≡ true → Reading taken_after Part.Fresh (encode c) c
reads_section c allowed = elim (nat_lt c 128) as (λ x. nat_lt c 128 ≡ x → Reading taken_after Part.Fresh (encode c) c) [
  | true ↦ λ is. subst (λ (bs : List ℕ). Reading taken_after Part.Fresh bs c) (sym (encode_ascii c (ltb-true c 128 is))) (last c c (low_first c (ltb-true c 128 is) allowed))
  | false ↦ λ is. reads_high taken_after (λ b high. refl) (λ v b. refl) (λ v b. refl) (λ v b. refl) c allowed (ltb-false c 128 is)
] refl

-- a character as it is written
pub reads_written : (stop : ℕ) (w : Written) → is_written stop w ≡ true → Reading char_taken Part.Fresh (written_text w) (written_char w)
reads_written stop (plain c) is =
    let three = left_of _ (not (c == stop)) is in
    let two = left_of _ (not (c == 60)) three in
    reads_plain c (left_of (is_allowed c) _ two) (is_false _ (right_of (is_allowed c) _ two))
reads_written stop (named c) is = reads_named c is
reads_written stop (decimal digits) is =
    let ref = left_of _ (is_allowed (number_of 10 digits)) is in
    more 38 _ _ (Part.Name Letters.Empty) refl refl (more 35 _ _ (Part.Number false false 0) refl refl
    (reads_digits false false 0 digits _ (left_of (list_all is_digit digits) _ ref) (right_of (list_all is_digit digits) _ ref) refl (right_of (is_reference (decimal digits)) _ is)))
reads_written stop (hexadecimal digits) is =
    let ref = left_of _ (is_allowed (number_of 16 digits)) is in
    more 38 _ _ (Part.Name Letters.Empty) refl refl (more 35 _ _ (Part.Number false false 0) refl refl (more 120 _ _ (Part.Number true false 0) refl refl
    (reads_digits true false 0 digits _ (left_of (list_all is_hex_digit digits) _ ref) (right_of (list_all is_hex_digit digits) _ ref) refl (right_of (is_reference (hexadecimal digits)) _ is))))
