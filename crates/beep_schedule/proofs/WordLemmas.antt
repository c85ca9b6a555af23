-- Words up to a space, and the numbers of a line.
use Rattle.std.proofs.Common.{◌≡◌, ℕ, suc, zero, ◌+◌, ◌<◌, ◌^◌, ◌==◌, Bool, true, false, nat_lt, cond, List, [], ◌∷◌, ◌++◌, length, take, drop, Option, Some, None, refl, ap, sym, ◌∙◌, subst, arith, append_assoc, append-nil, length-append}
use Rattle.std.specs.Fmt.{decimal}
use Rattle.std.specs.List.{position_or_len}
use Rattle.std.specs.Int.{IsInRange}
use Rattle.std.proofs.lemmas.Fmt.{digits_decimal}
use Rattle.std.proofs.lemmas.Str.Parse.{numerals_by_value}
use Rattle.std.proofs.lemmas.Bool.Decides.{nat_tests}
use Rattle.beep_schedule.specs.declared.field.Field.{Field}
use Rattle.beep_schedule.specs.declared.field.Numbers.{Numbers}
use Rattle.beep_schedule.specs.Events.{field}
use Rattle.beep_schedule.specs.Reading.{place_of, word_length, number_in, sized, field_of, is_nil, first, second, third, numbers_of}
use Rattle.beep_schedule.proofs.NumberLemmas.{number_said, number_word}

-- ---- octets that aren't there

-- none of these octets is this one
abbrev pub Lacks : ℕ → List ℕ → Type 0
Lacks octet [] = Unit {0}
Lacks octet (x ∷ xs) = ((x == octet) ≡ false) × Lacks octet xs

pub lacks_append : (octet : ℕ) (xs ys : List ℕ) → Lacks octet xs → Lacks octet ys → Lacks octet (xs ++ ys)
lacks_append octet [] ys a b = b
lacks_append octet (x ∷ xs) ys (e, a) b = (e, lacks_append octet xs ys a b)

-- these are decimal digits
abbrev Digits : List ℕ → Type 0
Digits [] = Unit {0}
Digits (x ∷ xs) = IsInRange 48 57 x × Digits xs

digits_lack : (octet : ℕ) (xs : List ℕ) → octet < 48 → Digits xs → Lacks octet xs
digits_lack octet [] low d = tt
digits_lack octet (x ∷ xs) low (in_range, d) =
    let e : (x == octet) ≡ false = grind (arith, nat_tests) in
    (e, digits_lack octet xs low d)

pub number_lacks : (octet n : ℕ) → octet < 48 → n < 2 ^ 32 → Lacks octet (decimal n)
number_lacks octet n low small =
    digits_lack octet (decimal n) low (digits_decimal (numerals_by_value Digits (record { empty = tt; parts = λ c cs d. d; more = λ c cs a b. (a, b) })) n (omega (arith, small)))

-- the place of an octet after those that aren't it
pub place_after : (octet : ℕ) (xs ys : List ℕ) → Lacks octet xs → position_or_len (λ other. other == octet) (xs ++ octet ∷ ys) ≡ length xs
place_after octet [] ys l =
    let e : (octet == octet) ≡ true = grind (arith, nat_tests) in
    rw e refl
place_after octet (x ∷ xs) ys (e, l) = rw (e, place_after octet xs ys l) (let one : 1 + length xs ≡ suc (length xs) = omega arith in one)

pub place_none : (octet : ℕ) (xs : List ℕ) → Lacks octet xs → position_or_len (λ other. other == octet) xs ≡ length xs
place_none octet [] l = refl
place_none octet (x ∷ xs) (e, l) = rw (e, place_none octet xs l) (let one : 1 + length xs ≡ suc (length xs) = omega arith in one)

pub place_is : (octet : ℕ) (xs ys : List ℕ) → Lacks octet xs → place_of octet (xs ++ octet ∷ ys) ≡ Some (length xs)
place_is octet xs ys l =
    let e : nat_lt (length xs) (length (xs ++ octet ∷ ys)) ≡ true = grind (arith, nat_tests, length-append xs (octet ∷ ys)) in
    rw (place_after octet xs ys l, e) refl

pub place_missing : (octet : ℕ) (xs : List ℕ) → Lacks octet xs → place_of octet xs ≡ None
place_missing octet xs l =
    let e : nat_lt (length xs) (length xs) ≡ false = grind (arith, nat_tests) in
    rw (place_none octet xs l, e) refl

-- ---- words

-- the octets end here, or go on with a space
abbrev pub IsRest : List ℕ → Type 0
IsRest [] = Unit {0}
IsRest (octet ∷ text) = octet ≡ 32

pub word_before : (word rest : List ℕ) → Lacks 32 word → IsRest rest → word_length (word ++ rest) ≡ length word
word_before word [] l is = rw (append-nil word, place_missing 32 word l) refl
word_before word (octet ∷ text) l is = rw (is, place_is 32 word text l) refl

pub take_append : (word rest : List ℕ) → take (length word) (word ++ rest) ≡ word
take_append [] rest = refl
take_append (x ∷ word) rest = ap (λ xs. x ∷ xs) (take_append word rest)

pub drop_append : (word rest : List ℕ) → drop (length word) (word ++ rest) ≡ rest
drop_append [] rest = refl
drop_append (x ∷ word) rest = drop_append word rest

pub parted : (n : ℕ) (xs : List ℕ) → take n xs ++ drop n xs ≡ xs
parted zero xs = refl
parted (suc n) [] = refl
parted (suc n) (x ∷ xs) = ap (λ ys. x ∷ ys) (parted n xs)

-- ---- a space and a number

abbrev field_with : ℕ → Field
field_with n = record { value = n; len = suc (length (decimal n)) }

pub field_word : (n : ℕ) (rest : List ℕ) → n < 2 ^ 32 → IsRest rest → field_of (field n ++ rest) ≡ Some (field_with n)
field_word n rest small is =
    rw (word_before (decimal n) rest (number_lacks 32 n (omega arith) small) is, take_append (decimal n) rest, number_word n small) refl

pub after_field : (n : ℕ) (rest : List ℕ) → drop (field_with n).len (field n ++ rest) ≡ rest
after_field n rest = drop_append (decimal n) rest

-- what was read
pub record IsField (text : List ℕ) (f : Field) : Type 0 where
  pub text_is : text ≡ field f.value ++ drop f.len text
  pub small : f.value < 2 ^ 32

sized_said : (len : ℕ) (word : List ℕ) (r : Option ℕ) (f : Field) → number_in word ≡ r → sized len r ≡ Some f → (word ≡ decimal f.value) × (f.value < 2 ^ 32) × (f.len ≡ suc len)
sized_said len word None f e s = absurd (let d : None ≡ Some f = s in cc)
sized_said len word (Some n) f e s =
    let said = number_said word n e in
    let value : n ≡ f.value = ap (λ o. value_in o) s in
    let size : suc len ≡ f.len = ap (λ o. len_in o) s in
    (said.0 ∙ ap decimal value, subst (λ k. k < 2 ^ 32) value said.1, sym size)
  where
    value_in : Option Field → ℕ
    value_in None = n
    value_in (Some g) = g.value

    len_in : Option Field → ℕ
    len_in None = 0
    len_in (Some g) = g.len

pub field_said : (text : List ℕ) (f : Field) → field_of text ≡ Some f → IsField text f
field_said [] f e = absurd (let d : None ≡ Some f = e in cc)
field_said (octet ∷ text) f e = by_test (octet == 32) refl
  where
    by_test : (b : Bool) → (octet == 32) ≡ b → IsField (octet ∷ text) f
    by_test true is =
        let same : octet ≡ 32 = grind (arith, nat_tests) in
        let s : sized (word_length text) (number_in (take (word_length text) text)) ≡ Some f = sym (ap (λ (b : Bool). cond b (sized (word_length text) (number_in (take (word_length text) text))) None) is) ∙ e in
        let said = sized_said (word_length text) (take (word_length text) text) (number_in (take (word_length text) text)) f refl s in
        let whole : take (word_length text) text ++ drop (word_length text) text ≡ text = parted (word_length text) text in
        record {
          text_is = rw (said.2, ← said.0, same, whole) refl;
          small = said.1;
        }
    by_test false is = absurd (let d : None ≡ Some f = sym (ap (λ (b : Bool). cond b (sized (word_length text) (number_in (take (word_length text) text))) None) is) ∙ e in cc)

-- ---- numbers

abbrev pub numbers_text : Numbers → List ℕ
numbers_text Numbers.Zero = []
numbers_text (Numbers.One n) = field n
numbers_text (Numbers.Two n m) = field n ++ field m
numbers_text (Numbers.Three n m k) = field n ++ field m ++ field k

abbrev pub AreSmall : Numbers → Type 0
AreSmall Numbers.Zero = Unit {0}
AreSmall (Numbers.One n) = n < 2 ^ 32
AreSmall (Numbers.Two n m) = (n < 2 ^ 32) × (m < 2 ^ 32)
AreSmall (Numbers.Three n m k) = (n < 2 ^ 32) × (m < 2 ^ 32) × (k < 2 ^ 32)

is_nil_said : (text : List ℕ) → is_nil text ≡ true → text ≡ []
is_nil_said [] e = refl
is_nil_said (x ∷ text) e = absurd (let d : false ≡ true = e in cc)

third_word : (n m k : ℕ) → k < 2 ^ 32 → third n m (field k) (field_of (field k)) ≡ Some (Numbers.Three n m k)
third_word n m k small =
    let one : field_of (field k) ≡ Some (field_with k) = ap field_of (sym (append-nil (field k))) ∙ field_word k [] small tt in
    let rest : drop (length (decimal k)) (decimal k) ≡ [] = ap (drop (length (decimal k))) (sym (append-nil (decimal k))) ∙ drop_append (decimal k) [] in
    rw (one, rest) refl

second_two : (n m : ℕ) → m < 2 ^ 32 → second n (field m) (field_of (field m)) ≡ Some (Numbers.Two n m)
second_two n m small =
    let one : field_of (field m) ≡ Some (field_with m) = ap field_of (sym (append-nil (field m))) ∙ field_word m [] small tt in
    let rest : drop (length (decimal m)) (decimal m) ≡ [] = ap (drop (length (decimal m))) (sym (append-nil (decimal m))) ∙ drop_append (decimal m) [] in
    rw (one, rest) refl

second_three : (n m k : ℕ) → m < 2 ^ 32 → k < 2 ^ 32 → second n (field m ++ field k) (field_of (field m ++ field k)) ≡ Some (Numbers.Three n m k)
second_three n m k a b =
    rw (field_word m (field k) a refl, drop_append (decimal m) (field k)) (third_word n m k b)

pub numbers_word : (ns : Numbers) → AreSmall ns → numbers_of (numbers_text ns) ≡ Some ns
numbers_word Numbers.Zero s = refl
numbers_word (Numbers.One n) s =
    let one : field_of (field n) ≡ Some (field_with n) = ap field_of (sym (append-nil (field n))) ∙ field_word n [] s tt in
    let rest : drop (length (decimal n)) (decimal n) ≡ [] = ap (drop (length (decimal n))) (sym (append-nil (decimal n))) ∙ drop_append (decimal n) [] in
    rw (one, rest) refl
numbers_word (Numbers.Two n m) (a, b) =
    rw (field_word n (field m) a refl, drop_append (decimal n) (field m)) (second_two n m b)
numbers_word (Numbers.Three n m k) (a, b, d) =
    rw (append_assoc (decimal n) (field m) (field k), field_word n (field m ++ field k) a refl, drop_append (decimal n) (field m ++ field k)) (second_three n m k b d)

three_said : (n m : ℕ) (text : List ℕ) (r : Option Field) (ns : Numbers) → field_of text ≡ r → third n m text r ≡ Some ns → field n ++ field m ++ text ≡ numbers_text ns
three_said n m text None ns q h = absurd (let d : None ≡ Some ns = h in cc)
three_said n m text (Some f) ns q h = by_test (is_nil (drop f.len text)) refl
  where
    whole : Numbers
    whole = Numbers.Three n m f.value

    text_in : Option Numbers → List ℕ
    text_in None = []
    text_in (Some x) = numbers_text x

    by_test : (b : Bool) → is_nil (drop f.len text) ≡ b → field n ++ field m ++ text ≡ numbers_text ns
    by_test true e =
        let is = field_said text f q in
        let all : text ≡ field f.value = is.text_is ∙ ap (λ xs. field f.value ++ xs) (is_nil_said (drop f.len text) e) ∙ append-nil (field f.value) in
        ap (λ xs. field n ++ field m ++ xs) all ∙ ap text_in (sym (ap (λ (b : Bool). cond b (Some whole) None) e) ∙ h)
    by_test false e = absurd (let d : None ≡ Some ns = sym (ap (λ (b : Bool). cond b (Some whole) None) e) ∙ h in cc)

two_said : (n : ℕ) (text : List ℕ) (r : Option Field) (ns : Numbers) → field_of text ≡ r → second n text r ≡ Some ns → field n ++ text ≡ numbers_text ns
two_said n text None ns q h = absurd (let d : None ≡ Some ns = h in cc)
two_said n text (Some f) ns q h = by_test (is_nil (drop f.len text)) refl
  where
    rest : List ℕ
    rest = drop f.len text

    text_in : Option Numbers → List ℕ
    text_in None = []
    text_in (Some x) = numbers_text x

    is : IsField text f
    is = field_said text f q

    by_test : (b : Bool) → is_nil (drop f.len text) ≡ b → field n ++ text ≡ numbers_text ns
    by_test true e =
        let all : text ≡ field f.value = is.text_is ∙ ap (λ xs. field f.value ++ xs) (is_nil_said (drop f.len text) e) ∙ append-nil (field f.value) in
        ap (λ xs. field n ++ xs) all ∙ ap text_in (sym (ap (λ (b : Bool). cond b (Some (Numbers.Two n f.value)) (third n f.value rest (field_of rest))) e) ∙ h)
    by_test false e =
        ap (λ xs. field n ++ xs) is.text_is ∙ sym (append_assoc (field n) (field f.value) rest) ∙ three_said n f.value rest (field_of rest) ns refl (sym (ap (λ (b : Bool). cond b (Some (Numbers.Two n f.value)) (third n f.value rest (field_of rest))) e) ∙ h)

one_said : (text : List ℕ) (r : Option Field) (ns : Numbers) → field_of text ≡ r → first text r ≡ Some ns → text ≡ numbers_text ns
one_said text None ns q h = absurd (let d : None ≡ Some ns = h in cc)
one_said text (Some f) ns q h = by_test (is_nil (drop f.len text)) refl
  where
    rest : List ℕ
    rest = drop f.len text

    text_in : Option Numbers → List ℕ
    text_in None = []
    text_in (Some x) = numbers_text x

    is : IsField text f
    is = field_said text f q

    by_test : (b : Bool) → is_nil (drop f.len text) ≡ b → text ≡ numbers_text ns
    by_test true e =
        let all : text ≡ field f.value = is.text_is ∙ ap (λ xs. field f.value ++ xs) (is_nil_said (drop f.len text) e) ∙ append-nil (field f.value) in
        all ∙ ap text_in (sym (ap (λ (b : Bool). cond b (Some (Numbers.One f.value)) (second f.value rest (field_of rest))) e) ∙ h)
    by_test false e =
        is.text_is ∙ two_said f.value rest (field_of rest) ns refl (sym (ap (λ (b : Bool). cond b (Some (Numbers.One f.value)) (second f.value rest (field_of rest))) e) ∙ h)

pub numbers_said : (text : List ℕ) (ns : Numbers) → numbers_of text ≡ Some ns → text ≡ numbers_text ns
numbers_said [] ns h = ap text_in h
  where
    text_in : Option Numbers → List ℕ
    text_in None = []
    text_in (Some x) = numbers_text x
numbers_said (x ∷ text) ns h = one_said (x ∷ text) (field_of (x ∷ text)) ns refl h
