-- What of a character was read, as octets.
use Rattle.std.proofs.Common.{◌≡◌, ℕ, ◌+◌, ◌-◌, ◌*◌, ◌/◌, ◌%◌, ◌<◌, ◌≤◌, ◌⊎◌, Bool, true, false, ◌&&◌, not, ◌==◌, nat_lt, nat_le, if◌then◌else◌, List, [], ◌∷◌, ◌++◌, length, codes, inl, inr, Option, Some, None, refl, sym, ap, ap₂, subst, ◌∙◌, append_assoc, arith, length-append, ⊎_elim, ne_eqb, eqb-true, ltb-true, ltb-false, leb-true, leb-false, le-ltb, lt-ltb}
use Rattle.std.specs.List.{list_all}
use Rattle.std.proofs.lemmas.Str.{encode_ascii}
use Rattle.std.proofs.lemmas.List.Folds.{list_all-append}
use Rattle.std.proofs.lemmas.List.Sums.{fold_push}
use Rattle.std.proofs.lemmas.List.{same_from_push}
use lib.Utf8.{encode}
use Rattle.beep_text.specs.declared.mode.Letters.{Letters}
use Rattle.beep_text.specs.declared.mode.Part.{Part}
use Rattle.beep_text.specs.declared.mode.Taken.{Taken}
use Rattle.beep_chars.specs.Characters.{is_allowed}
use Rattle.beep_text.specs.Elements.{Written, plain, named, decimal, hexadecimal, written_text, written_char, is_reference, is_written, digit_of, number_of}
use Rattle.beep_text.specs.Machine.{letter_after, letters_taken, is_no_letter, allowed_taken, is_tail, grown, first_taken, base_of, is_digit_in, named_taken, taken_after, char_taken, is_fresh, is_ref}
use Rattle.beep_text.proofs.ElementLemmas.{left_of, right_of, both, is_false}
use Rattle.beep_text.proofs.WrittenLemmas.{by_test}

-- ---- UTF-8

pub encode_two : (c : ℕ) → 128 ≤ c → c < 2048 → encode c ≡ (192 + c / 64) ∷ (128 + c % 64) ∷ []
unfolding encode
encode_two c low high = rw (le-ltb _ _ low, lt-ltb _ _ high) refl

pub encode_three : (c : ℕ) → 2048 ≤ c → c < 65536 → encode c ≡ (224 + c / 4096) ∷ (128 + (c / 64) % 64) ∷ (128 + c % 64) ∷ []
unfolding encode
encode_three c low high = rw (le-ltb c 128 (omega arith), le-ltb _ _ low, lt-ltb _ _ high) refl

pub encode_four : (c : ℕ) → 65536 ≤ c → encode c ≡ (240 + c / 262144) ∷ (128 + (c / 4096) % 64) ∷ (128 + (c / 64) % 64) ∷ (128 + c % 64) ∷ []
unfolding encode
encode_four c low = rw (le-ltb c 128 (omega arith), le-ltb c 2048 (omega arith), le-ltb _ _ low) refl

-- ---- what was read of a character

-- the letters
abbrev pub letters_text : Letters → List ℕ
letters_text Letters.Empty = []
letters_text Letters.A = codes "a"
letters_text Letters.Am = codes "am"
letters_text Letters.Amp = codes "amp"
letters_text Letters.Ap = codes "ap"
letters_text Letters.Apo = codes "apo"
letters_text Letters.Apos = codes "apos"
letters_text Letters.G = codes "g"
letters_text Letters.Gt = codes "gt"
letters_text Letters.L = codes "l"
letters_text Letters.Lt = codes "lt"
letters_text Letters.Q = codes "q"
letters_text Letters.Qu = codes "qu"
letters_text Letters.Quo = codes "quo"
letters_text Letters.Quot = codes "quot"

-- how a number begins
abbrev pub number_front : Bool → List ℕ
number_front hex = if hex then 38 ∷ 35 ∷ 120 ∷ [] else 38 ∷ 35 ∷ []

pub record IsOne (v : ℕ) (o : List ℕ) : Type 0 where
  pub some : 0 < length o
  pub low : 2 ≤ v
  pub high : v < 17408
  pub scalar : (v < 864) ⊎ (896 ≤ v)
  pub text : (r : ℕ) → r < 64 → encode (v * 64 + r) ≡ o ++ (128 + r) ∷ []

pub record IsTwo (v : ℕ) (o : List ℕ) : Type 0 where
  pub some : 0 < length o
  pub high : v < 272
  pub text : (r : ℕ) → r < 4096 → 2048 ≤ v * 4096 + r → encode (v * 4096 + r) ≡ o ++ (128 + r / 64) ∷ (128 + r % 64) ∷ []

pub record IsThree (v : ℕ) (o : List ℕ) : Type 0 where
  pub some : 0 < length o
  pub high : v < 5
  pub text : (r : ℕ) → r < 262144 → 65536 ≤ v * 262144 + r → encode (v * 262144 + r) ≡ o ++ (128 + r / 4096) ∷ (128 + (r / 64) % 64) ∷ (128 + r % 64) ∷ []

pub record IsNumber (hex any : Bool) (v : ℕ) (o : List ℕ) : Type 0 where
  pub digits : List ℕ
  pub text : o ≡ number_front hex ++ digits
  pub are : list_all (is_digit_in hex) digits ≡ true
  pub some : any ≡ nat_lt 0 (length digits)
  pub value : v ≡ number_of (base_of hex) digits
  pub small : v ≤ 0x10FFFF

-- the octets of a part
abbrev pub PartText : Part → List ℕ → Type 0
PartText Part.Fresh o = o ≡ []
PartText (Part.One v) o = IsOne v o
PartText (Part.Two v) o = IsTwo v o
PartText (Part.Three v) o = IsThree v o
PartText (Part.Name letters) o = o ≡ 38 ∷ letters_text letters
PartText (Part.Number hex any v) o = IsNumber hex any v o

-- the octets of a character that stands plain: one octet, or more of a character above them
pub record IsPlain (c : ℕ) (o : List ℕ) : Type 0 where
  pub text : encode c ≡ o
  pub allowed : is_allowed c ≡ true
  pub single : (o ≡ c ∷ []) ⊎ (128 ≤ c)

-- the octets of a reference
pub record IsRef (c : ℕ) (o : List ℕ) : Type 0 where
  pub whole : Written
  pub text : written_text whole ≡ o
  pub char : written_char whole ≡ c
  pub reference : is_reference whole ≡ true
  pub written : (stop : ℕ) → is_written stop whole ≡ true

abbrev pub TakenText : Taken → List ℕ → Type 0
TakenText (Taken.Whole c) o = IsPlain c o ⊎ IsRef c o
TakenText (Taken.More part) o = PartText part o
TakenText Taken.Dead o = Unit {0}

-- the same where no reference is read
abbrev pub PlainTaken : Taken → List ℕ → Type 0
PlainTaken (Taken.Whole c) o = IsPlain c o
PlainTaken (Taken.More part) o = PartText part o × (is_ref part ≡ false) × (is_fresh part ≡ false)
PlainTaken Taken.Dead o = Unit {0}

of_plain : (t : Taken) (o : List ℕ) → PlainTaken t o → TakenText t o
of_plain (Taken.Whole c) o is = inl is
of_plain (Taken.More part) o is = is.0
of_plain Taken.Dead o is = is

-- ---- one octet more

pub by_allowed : (P : Taken → Type 0) (c : ℕ) → (is_allowed c ≡ true → P (Taken.Whole c)) → P Taken.Dead → P (allowed_taken c)
by_allowed P c yes_allowed other = by_test P (is_allowed c) yes_allowed (λ _. other)

one-first : (b : ℕ) → 194 ≤ b → b < 224 → IsOne (b - 192) (b ∷ [])
one-first b low high = record {
  some = omega arith;
  low = omega arith;
  high = omega arith;
  scalar = inl (omega arith);
  text = λ r under. encode_two ((b - 192) * 64 + r) (omega arith) (omega arith) ∙ ap₂ (λ x y. x ∷ y ∷ []) (omega arith) (omega arith);
}

two-first : (b : ℕ) → 224 ≤ b → b < 240 → IsTwo (b - 224) (b ∷ [])
two-first b low high = record {
  some = omega arith;
  high = omega arith;
  text = λ r under over. encode_three ((b - 224) * 4096 + r) over (omega arith)
      ∙ ap₂ (λ x ys. x ∷ ys) (omega arith) (ap₂ (λ x y. x ∷ y ∷ []) (omega arith) (omega arith));
}

three-first : (b : ℕ) → 240 ≤ b → b < 245 → IsThree (b - 240) (b ∷ [])
three-first b low high = record {
  some = omega arith;
  high = omega arith;
  text = λ r under over. encode_four ((b - 240) * 262144 + r) over
      ∙ ap₂ (λ x ys. x ∷ ys) (omega arith) (ap₂ (λ x ys. x ∷ ys) (omega arith) (ap₂ (λ x y. x ∷ y ∷ []) (omega arith) (omega arith)));
}

first-text : (b : ℕ) → PlainTaken (first_taken b) (b ∷ [])
first-text b =
    let P : Taken → Type 0 = λ t. PlainTaken t (b ∷ []) in
    by_test P (nat_lt b 128) (λ is. let low : b < 128 = ltb-true b 128 is in by_allowed P b (λ allowed. record { text = encode_ascii b low; allowed = allowed; single = inl refl }) tt) (λ a.
    by_test P (nat_lt b 194) (λ _. tt) (λ b1. let low : 194 ≤ b = ltb-false b 194 b1 in
    by_test P (nat_lt b 224) (λ is. (one-first b low (ltb-true b 224 is), refl, refl)) (λ b2. let low2 : 224 ≤ b = ltb-false b 224 b2 in
    by_test P (nat_lt b 240) (λ is. (two-first b low2 (ltb-true b 240 is), refl, refl)) (λ b3. let low3 : 240 ≤ b = ltb-false b 240 b3 in
    by_test P (nat_lt b 245) (λ is. (three-first b low3 (ltb-true b 245 is), refl, refl)) (λ _. tt)))))

one-more : (v b : ℕ) (o : List ℕ) → IsOne v o → 128 ≤ b → b < 192 → is_allowed (grown v b) ≡ true → IsPlain (grown v b) (o ++ b ∷ [])
one-more v b o is low high allowed = record {
  text = is.text (b - 128) (omega arith) ∙ ap (λ x. o ++ x ∷ []) (omega arith);
  allowed = allowed;
  single = inr (let l = is.low in omega arith);
}

two-more : (v b : ℕ) (o : List ℕ) → IsTwo v o → 128 ≤ b → b < 192 → 32 ≤ grown v b → grown v b < 17408 → (grown v b < 864) ⊎ (896 ≤ grown v b) → IsOne (grown v b) (o ++ b ∷ [])
two-more v b o is low high over under scalar = record {
  some = omega (arith, length-append o (b ∷ []));
  low = omega arith;
  high = under;
  scalar = scalar;
  text = λ r small.
      let same : (v * 64 + (b - 128)) * 64 + r ≡ v * 4096 + ((b - 128) * 64 + r) = omega arith in
      ap encode same ∙ is.text ((b - 128) * 64 + r) (omega arith) (omega arith)
      ∙ ap₂ (λ x y. o ++ x ∷ y ∷ []) (omega arith) (omega arith) ∙ sym (append_assoc o (b ∷ []) ((128 + r) ∷ []));
}

three-more : (v b : ℕ) (o : List ℕ) → IsThree v o → 128 ≤ b → b < 192 → 16 ≤ grown v b → grown v b < 272 → IsTwo (grown v b) (o ++ b ∷ [])
three-more v b o is low high over under = record {
  some = omega (arith, length-append o (b ∷ []));
  high = under;
  text = λ r small large.
      let same : (v * 64 + (b - 128)) * 4096 + r ≡ v * 262144 + ((b - 128) * 4096 + r) = omega arith in
      ap encode same ∙ is.text ((b - 128) * 4096 + r) (omega arith) (omega arith)
      ∙ ap₂ (λ x ys. o ++ x ∷ ys) (omega arith) (ap₂ (λ x y. x ∷ y ∷ []) (omega arith) (omega arith)) ∙ sym (append_assoc o (b ∷ []) ((128 + r / 64) ∷ (128 + r % 64) ∷ []));
}

-- a letter after a reference
abbrev LetterText : List ℕ → Option Letters → Type 0
LetterText o None = Unit {0}
LetterText o (Some letters) = o ≡ 38 ∷ letters_text letters

one_letter : (b k : ℕ) (o : List ℕ) (after : Letters) (rest : Option Letters) (text : List ℕ) → o ≡ 38 ∷ text → 38 ∷ letters_text after ≡ (38 ∷ text) ++ k ∷ [] → LetterText (o ++ b ∷ []) rest
    → LetterText (o ++ b ∷ []) (if b == k then Some after else rest)
one_letter b k o after rest text is longer other =
    by_test (LetterText (o ++ b ∷ [])) (b == k) (λ same. ap (λ x. x ++ b ∷ []) is ∙ ap (λ x. (38 ∷ text) ++ x ∷ []) (eqb-true b k same) ∙ sym longer) (λ _. other)

letter-text : (letters : Letters) (b : ℕ) (o : List ℕ) → o ≡ 38 ∷ letters_text letters → LetterText (o ++ b ∷ []) (letter_after letters b)
letter-text Letters.Empty b o is =
    one_letter b 97 o Letters.A _ [] is refl (one_letter b 103 o Letters.G _ [] is refl (one_letter b 108 o Letters.L _ [] is refl (one_letter b 113 o Letters.Q None [] is refl tt)))
letter-text Letters.A b o is = one_letter b 109 o Letters.Am _ (codes "a") is refl (one_letter b 112 o Letters.Ap None (codes "a") is refl tt)
letter-text Letters.Am b o is = one_letter b 112 o Letters.Amp None (codes "am") is refl tt
letter-text Letters.Amp b o is = tt
letter-text Letters.Ap b o is = one_letter b 111 o Letters.Apo None (codes "ap") is refl tt
letter-text Letters.Apo b o is = one_letter b 115 o Letters.Apos None (codes "apo") is refl tt
letter-text Letters.Apos b o is = tt
letter-text Letters.G b o is = one_letter b 116 o Letters.Gt None (codes "g") is refl tt
letter-text Letters.Gt b o is = tt
letter-text Letters.L b o is = one_letter b 116 o Letters.Lt None (codes "l") is refl tt
letter-text Letters.Lt b o is = tt
letter-text Letters.Q b o is = one_letter b 117 o Letters.Qu None (codes "q") is refl tt
letter-text Letters.Qu b o is = one_letter b 111 o Letters.Quo None (codes "qu") is refl tt
letter-text Letters.Quo b o is = one_letter b 116 o Letters.Quot None (codes "quo") is refl tt
letter-text Letters.Quot b o is = tt

named_ref : (c : ℕ) (text o : List ℕ) (b : ℕ) → is_reference (named c) ≡ true → written_text (named c) ≡ (38 ∷ text) ++ 59 ∷ [] → o ≡ 38 ∷ text → b ≡ 59 → IsRef c (o ++ b ∷ [])
named_ref c text o b ref said is end =
    record { whole = named c; text = said ∙ ap₂ (λ x y. x ++ y ∷ []) (sym is) (sym end); char = refl; reference = ref; written = λ stop. ref }

letters-end : (letters : Letters) (b : ℕ) (o : List ℕ) → o ≡ 38 ∷ letters_text letters → b ≡ 59 → TakenText (letters_taken letters) (o ++ b ∷ [])
letters-end Letters.Empty b o is end = tt
letters-end Letters.A b o is end = tt
letters-end Letters.Am b o is end = tt
letters-end Letters.Amp b o is end = inr (named_ref 38 (codes "amp") o b refl refl is end)
letters-end Letters.Ap b o is end = tt
letters-end Letters.Apo b o is end = tt
letters-end Letters.Apos b o is end = inr (named_ref 39 (codes "apos") o b refl refl is end)
letters-end Letters.G b o is end = tt
letters-end Letters.Gt b o is end = inr (named_ref 62 (codes "gt") o b refl refl is end)
letters-end Letters.L b o is end = tt
letters-end Letters.Lt b o is end = inr (named_ref 60 (codes "lt") o b refl refl is end)
letters-end Letters.Q b o is end = tt
letters-end Letters.Qu b o is end = tt
letters-end Letters.Quo b o is end = tt
letters-end Letters.Quot b o is end = inr (named_ref 34 (codes "quot") o b refl refl is end)

named-taken : (letters : Option Letters) (o : List ℕ) → LetterText o letters → TakenText (named_taken letters) o
named-taken None o is = tt
named-taken (Some letters) o is = is

no_letter-text : (letters : Letters) → is_no_letter letters ≡ true → letters_text letters ≡ []
no_letter-text Letters.Empty is = refl
no_letter-text Letters.A is = absurd (cc is)
no_letter-text Letters.Am is = absurd (cc is)
no_letter-text Letters.Amp is = absurd (cc is)
no_letter-text Letters.Ap is = absurd (cc is)
no_letter-text Letters.Apo is = absurd (cc is)
no_letter-text Letters.Apos is = absurd (cc is)
no_letter-text Letters.G is = absurd (cc is)
no_letter-text Letters.Gt is = absurd (cc is)
no_letter-text Letters.L is = absurd (cc is)
no_letter-text Letters.Lt is = absurd (cc is)
no_letter-text Letters.Q is = absurd (cc is)
no_letter-text Letters.Qu is = absurd (cc is)
no_letter-text Letters.Quo is = absurd (cc is)
no_letter-text Letters.Quot is = absurd (cc is)

number-begun : (letters : Letters) (b : ℕ) (o : List ℕ) → o ≡ 38 ∷ letters_text letters → b ≡ 35 → is_no_letter letters ≡ true → IsNumber false false 0 (o ++ b ∷ [])
number-begun letters b o is hash none =
    record { digits = []; text = ap₂ (λ x y. x ++ y ∷ []) (is ∙ ap (λ x. 38 ∷ x) (no_letter-text letters none)) hash; are = refl; some = refl; value = refl; small = omega arith }

name-text : (letters : Letters) (b : ℕ) (o : List ℕ) → o ≡ 38 ∷ letters_text letters → TakenText (taken_after (Part.Name letters) b) (o ++ b ∷ [])
name-text letters b o is =
    let P : Taken → Type 0 = λ t. TakenText t (o ++ b ∷ []) in
    by_test P (b == 59) (λ same. letters-end letters b o is (eqb-true b 59 same)) (λ _.
    by_test P (b == 35 && is_no_letter letters) (λ both_hold. number-begun letters b o is (eqb-true b 35 (left_of (b == 35) _ both_hold)) (right_of (b == 35) _ both_hold)) (λ _.
    named-taken (letter_after letters b) (o ++ b ∷ []) (letter-text letters b o is)))

-- ---- numbers

none_given : (digits : List ℕ) → false ≡ nat_lt 0 (length digits) → digits ≡ []
none_given [] is = refl
none_given (d ∷ digits) is = absurd (omega (arith, ltb-false 0 (length (d ∷ digits)) (sym is)))

number_ref : (hex : Bool) (v b : ℕ) (o : List ℕ) → IsNumber hex true v o → b ≡ 59 → is_allowed v ≡ true → IsRef v (o ++ b ∷ [])
number_ref true v b o is end allowed =
    let ref = both _ _ is.are (sym is.some) in
    let value = both _ _ ref (ap is_allowed (sym is.value) ∙ allowed) in
    record { whole = hexadecimal is.digits; text = ap₂ (λ x y. x ++ y ∷ []) (sym is.text) (sym end); char = sym is.value; reference = ref; written = λ stop. value }
number_ref false v b o is end allowed =
    let ref = both _ _ is.are (sym is.some) in
    let value = both _ _ ref (ap is_allowed (sym is.value) ∙ allowed) in
    record { whole = decimal is.digits; text = ap₂ (λ x y. x ++ y ∷ []) (sym is.text) (sym end); char = sym is.value; reference = ref; written = λ stop. value }

number_ended : (hex any : Bool) (v b : ℕ) (o : List ℕ) → IsNumber hex any v o → b ≡ 59 → TakenText (if any then allowed_taken v else Taken.Dead) (o ++ b ∷ [])
number_ended hex true v b o is end = by_allowed (λ t. TakenText t (o ++ b ∷ [])) v (λ allowed. inr (number_ref hex v b o is end allowed)) tt
number_ended hex false v b o is end = tt

hex_begun : (hex any : Bool) (v b : ℕ) (o : List ℕ) → IsNumber hex any v o → b ≡ 120 → hex ≡ false → any ≡ false → IsNumber true false 0 (o ++ b ∷ [])
hex_begun true any v b o is end low none = absurd (cc low)
hex_begun false true v b o is end low none = absurd (cc none)
hex_begun false false v b o is end low none =
    record { digits = []; text = ap₂ (λ x y. x ++ y ∷ []) (is.text ∙ ap (λ x. number_front false ++ x) (none_given is.digits is.some)) end; are = refl; some = refl; value = refl; small = omega arith }

number_more : (hex any : Bool) (v b : ℕ) (o : List ℕ) → IsNumber hex any v o → is_digit_in hex b ≡ true → base_of hex * v + digit_of b ≤ 0x10FFFF
    → IsNumber hex true (base_of hex * v + digit_of b) (o ++ b ∷ [])
number_more hex any v b o is digit under = record {
  digits = is.digits ++ b ∷ [];
  text = ap (λ x. x ++ b ∷ []) is.text ∙ append_assoc (number_front hex) is.digits (b ∷ []);
  are = list_all-append (is_digit_in hex) is.digits (b ∷ []) ∙ both _ _ is.are (both _ _ digit refl);
  some = sym (lt-ltb 0 _ (omega (arith, length-append is.digits (b ∷ []))));
  value = ap (λ x. base_of hex * x + digit_of b) is.value ∙ sym (fold_push (λ n c. base_of hex * n + digit_of c) 0 is.digits b);
  small = under;
}

number-text : (hex any : Bool) (v b : ℕ) (o : List ℕ) → IsNumber hex any v o → TakenText (taken_after (Part.Number hex any v) b) (o ++ b ∷ [])
number-text hex any v b o is =
    let P : Taken → Type 0 = λ t. TakenText t (o ++ b ∷ []) in
    by_test P (b == 59) (λ same. number_ended hex any v b o is (eqb-true b 59 same)) (λ _.
    by_test P (b == 120 && not hex && not any)
    (λ three. hex_begun hex any v b o is (eqb-true b 120 (left_of (b == 120) _ (left_of _ (not any) three))) (is_false _ (right_of (b == 120) _ (left_of _ (not any) three))) (is_false _ (right_of (b == 120 && not hex) _ three))) (λ _.
    by_test P (is_digit_in hex b) (λ digit. by_test P (nat_le (base_of hex * v + digit_of b) 0x10FFFF) (λ under. number_more hex any v b o is digit (leb-true _ _ under)) (λ _. tt)) (λ _. tt)))

-- ---- any part

tail_low : (b : ℕ) → is_tail b ≡ true → 128 ≤ b
tail_low b is = leb-true 128 b (left_of (nat_le 128 b) _ is)

tail_high : (b : ℕ) → is_tail b ≡ true → b < 192
tail_high b is = ltb-true b 192 (right_of (nat_le 128 b) _ is)

apart : (n low high : ℕ) → not (nat_le low n && nat_lt n high) ≡ true → (n < low) ⊎ (high ≤ n)
apart n low high is = elim (nat_le low n) as (λ x. nat_le low n ≡ x → (n < low) ⊎ (high ≤ n)) [
  | true ↦ λ over. inr (ltb-false n high (rest (nat_le low n) (nat_lt n high) over (is_false _ is)))
  | false ↦ λ under. inl (leb-false low n under)
] refl
  where
    rest : (x y : Bool) → x ≡ true → (x && y) ≡ false → y ≡ false
    rest true y _ is = is
    rest false y is _ = absurd (cc is)

two-text : (v b : ℕ) (o : List ℕ) → IsTwo v o → PlainTaken (taken_after (Part.Two v) b) (o ++ b ∷ [])
two-text v b o is =
    by_test (λ t. PlainTaken t (o ++ b ∷ [])) (is_tail b && nat_le 32 (grown v b) && nat_lt (grown v b) 17408 && not (nat_le 864 (grown v b) && nat_lt (grown v b) 896))
    (λ four. let three = left_of _ (not (nat_le 864 (grown v b) && nat_lt (grown v b) 896)) four in
    let two = left_of _ (nat_lt (grown v b) 17408) three in
    let one = left_of (is_tail b) _ two in
    (two-more v b o is (tail_low b one) (tail_high b one) (leb-true _ _ (right_of (is_tail b) _ two)) (ltb-true _ _ (right_of (is_tail b && nat_le 32 (grown v b)) _ three)) (apart (grown v b) 864 896 (right_of (is_tail b && nat_le 32 (grown v b) && nat_lt (grown v b) 17408) _ four)), refl, refl))
    (λ _. tt)

three-text : (v b : ℕ) (o : List ℕ) → IsThree v o → PlainTaken (taken_after (Part.Three v) b) (o ++ b ∷ [])
three-text v b o is =
    by_test (λ t. PlainTaken t (o ++ b ∷ [])) (is_tail b && nat_le 16 (grown v b) && nat_lt (grown v b) 272)
    (λ three. let two = left_of _ (nat_lt (grown v b) 272) three in
    let one = left_of (is_tail b) _ two in
    (three-more v b o is (tail_low b one) (tail_high b one) (leb-true _ _ (right_of (is_tail b) _ two)) (ltb-true _ _ (right_of (is_tail b && nat_le 16 (grown v b)) _ three)), refl, refl))
    (λ _. tt)

-- the same of a character that is no reference
pub plain-text : (part : Part) (b : ℕ) (o : List ℕ) → PartText part o → is_ref part ≡ false → PlainTaken (taken_after part b) (o ++ b ∷ [])
plain-text Part.Fresh b o is other = subst (λ (x : List ℕ). PlainTaken (first_taken b) (x ++ b ∷ [])) (sym is) (first-text b)
plain-text (Part.One v) b o is other =
    let P : Taken → Type 0 = λ t. PlainTaken t (o ++ b ∷ []) in
    by_test P (is_tail b) (λ one. by_allowed P (grown v b) (λ allowed. one-more v b o is (tail_low b one) (tail_high b one) allowed) tt) (λ _. tt)
plain-text (Part.Two v) b o is other = two-text v b o is
plain-text (Part.Three v) b o is other = three-text v b o is
plain-text (Part.Name letters) b o is other = absurd (cc other)
plain-text (Part.Number hex any v) b o is other = absurd (cc other)

-- one octet more of a character is read as it stands
pub taken-text : (part : Part) (b : ℕ) (o : List ℕ) → PartText part o → TakenText (taken_after part b) (o ++ b ∷ [])
taken-text Part.Fresh b o is = of_plain (first_taken b) (o ++ b ∷ []) (plain-text Part.Fresh b o is refl)
taken-text (Part.One v) b o is = of_plain (taken_after (Part.One v) b) (o ++ b ∷ []) (plain-text (Part.One v) b o is refl)
taken-text (Part.Two v) b o is = of_plain (taken_after (Part.Two v) b) (o ++ b ∷ []) (plain-text (Part.Two v) b o is refl)
taken-text (Part.Three v) b o is = of_plain (taken_after (Part.Three v) b) (o ++ b ∷ []) (plain-text (Part.Three v) b o is refl)
taken-text (Part.Name letters) b o is = name-text letters b o is
taken-text (Part.Number hex any v) b o is = number-text hex any v b o is

-- ---- where a character may stand

-- some octets came where the part isn't fresh
pub part-some : (part : Part) (o : List ℕ) → PartText part o → is_fresh part ≡ false → 0 < length o
part-some Part.Fresh o is other = absurd (cc other)
part-some (Part.One v) o is other = is.some
part-some (Part.Two v) o is other = is.some
part-some (Part.Three v) o is other = is.some
part-some (Part.Name letters) o is other = omega (arith, ap length is)
part-some (Part.Number true any v) o is other = omega (arith, ap length is.text)
part-some (Part.Number false any v) o is other = omega (arith, ap length is.text)

pub fresh-text : (part : Part) (o : List ℕ) → PartText part o → is_fresh part ≡ true → o ≡ []
fresh-text Part.Fresh o is fresh = is
fresh-text (Part.One v) o is fresh = absurd (cc fresh)
fresh-text (Part.Two v) o is fresh = absurd (cc fresh)
fresh-text (Part.Three v) o is fresh = absurd (cc fresh)
fresh-text (Part.Name letters) o is fresh = absurd (cc fresh)
fresh-text (Part.Number hex any v) o is fresh = absurd (cc fresh)

-- a plain character is one octet where nothing came, or above them
pub plain-octet : (part : Part) (b c : ℕ) (o : List ℕ) → PartText part o → IsPlain c (o ++ b ∷ []) → (x : ℕ) → x < 128 → (is_fresh part ≡ true → (b == x) ≡ false) → (c == x) ≡ false
plain-octet part b c o text plain_is x low differs =
    ⊎_elim (λ single. only (is_fresh part) refl single) (λ high. ne_eqb c x (λ same. absurd (omega arith))) plain_is.single
  where
    only : (f : Bool) → is_fresh part ≡ f → o ++ b ∷ [] ≡ c ∷ [] → (c == x) ≡ false
    only true fresh single =
        let same = same_from_push o [] b c single in
        ap (λ y. y == x) (sym same.1) ∙ differs fresh
    only false fresh single = absurd (omega (arith, part-some part o text fresh, ap length single, length-append o (b ∷ [])))

-- a character that is whole, as it is written
abbrev pub WrittenTaken : ℕ → Taken → List ℕ → Type 0
WrittenTaken stop (Taken.Whole c) o = (w : Written) × (written_text w ≡ o) × (written_char w ≡ c) × (is_written stop w ≡ true)
WrittenTaken stop (Taken.More part) o = PartText part o
WrittenTaken stop Taken.Dead o = Unit {0}

three_not : (a x y z : Bool) → a ≡ true → x ≡ false → y ≡ false → z ≡ false → (a && not x && not y && not z) ≡ true
three_not a x y z one two three four = rw (one, two, three, four) refl

written-taken : (stop : ℕ) (part : Part) (b : ℕ) (o : List ℕ) (t : Taken) → PartText part o → stop < 128 → (is_fresh part ≡ true → (b == 38) ≡ false) → (is_fresh part ≡ true → (b == 60) ≡ false)
    → (is_fresh part ≡ true → (b == stop) ≡ false) → TakenText t (o ++ b ∷ []) → WrittenTaken stop t (o ++ b ∷ [])
written-taken stop part b o (Taken.Whole c) text low amp lt end is = ⊎_elim
    (λ p. (plain c, p.text, refl, three_not _ _ _ _ p.allowed (plain-octet part b c o text p 38 (omega arith) amp) (plain-octet part b c o text p 60 (omega arith) lt) (plain-octet part b c o text p stop low end)))
    (λ r. (r.whole, r.text, r.char, r.written stop)) is
written-taken stop part b o (Taken.More after) text low amp lt end is = is
written-taken stop part b o Taken.Dead text low amp lt end is = tt

-- one octet more of a character that may be a reference
pub char-text : (stop : ℕ) (part : Part) (b : ℕ) (o : List ℕ) → PartText part o → stop < 128 → (is_fresh part ≡ true → (b == 60) ≡ false) → (is_fresh part ≡ true → (b == stop) ≡ false)
    → WrittenTaken stop (char_taken part b) (o ++ b ∷ [])
char-text stop part b o text low lt end =
    by_test (λ t. WrittenTaken stop t (o ++ b ∷ [])) (is_fresh part && b == 38)
    (λ amp. ap₂ (λ x y. x ++ y ∷ []) (fresh-text part o text (left_of _ _ amp)) (eqb-true b 38 (right_of (is_fresh part) _ amp)))
    (λ other. written-taken stop part b o (taken_after part b) text low (λ fresh. rest (is_fresh part) (b == 38) fresh other) lt end (taken-text part b o text))
  where
    rest : (x y : Bool) → x ≡ true → (x && y) ≡ false → y ≡ false
    rest true y _ is = is
    rest false y is _ = absurd (cc is)
