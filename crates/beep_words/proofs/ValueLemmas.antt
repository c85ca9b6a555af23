-- The word of a value is read as that value, and as no other.
use Rattle.std.proofs.Common.{◌≡◌, ℕ, ◌≤◌, ◌<◌, Bool, true, false, not, ◌&&◌, ◌||◌, nat_le, nat_lt, cond, if◌then◌else◌, List, [], ◌∷◌, length, codes, Option, Some, None, is_some, refl, ap, sym, ◌∙◌, subst, arith}
use Rattle.std.specs.declared.result.Result.{Result}
use Rattle.std.specs.declared.result.Result.TheVariants.{Ok}
use Rattle.std.specs.Fmt.{decimal}
use Rattle.std.specs.Str.{bytes_eq}
use Rattle.std.specs.Str.Parse.{digits_value, ParsesUnsigned}
use Rattle.std.specs.List.{list_all}
use Rattle.std.proofs.lemmas.Fmt.{parse-decimal, decimal_is_IsNumeral}
use Rattle.std.proofs.lemmas.Slice.Eq.{bytes_eq-Decides}
use Rattle.std.proofs.lemmas.Bool.Decides.{nat_tests}
use Rattle.beep_words.specs.declared.form.Form.{Form}
use Rattle.beep_words.specs.declared.options.TheConstants.{MAX_ADDRESS, MAX_SETTING}
use Rattle.beep_words.specs.CommandSet.{Value, choice, number, text, word_of, begins_with_dash, is_printable, IsText, IsOf, IsOfSome}
use Rattle.beep_words.specs.Choosing.{number_in, within, is_text, value_of_word, is_of_some}

-- ---- tests

pub and_left : (a b : Bool) → (a && b) ≡ true → a ≡ true
and_left true b e = refl
and_left false b e = cc

pub and_right : (a b : Bool) → (a && b) ≡ true → b ≡ true
and_right true b e = e
and_right false b e = cc

pub and_both : (a b : Bool) → a ≡ true → b ≡ true → (a && b) ≡ true
and_both true b e f = f
and_both false b e f = e

pub not_true : (a : Bool) → not a ≡ true → a ≡ false
not_true true e = cc
not_true false e = refl

-- ---- numbers

-- the test of a number
abbrev test : List ℕ → Bool
test word = bytes_eq word (decimal (digits_value 10 word)) && nat_le (digits_value 10 word) MAX_SETTING

-- what the test says
said : (word : List ℕ) → test word ≡ true → (word ≡ decimal (digits_value 10 word)) × (digits_value 10 word ≤ MAX_SETTING)
said word e =
    let same : bytes_eq word (decimal (digits_value 10 word)) ≡ true = and_left _ _ e in
    let most : digits_value 10 word ≤ MAX_SETTING = grind (arith, nat_tests) in
    ((bytes_eq-Decides word (decimal (digits_value 10 word))).0 same, most)

-- a text that isn't read, or that isn't written as it was read, is no number
pub none_in : {E : Type 0} (word : List ℕ) (r : Result ℕ E) → ParsesUnsigned 32 10 word r → ((n : ℕ) → word ≡ decimal n → r ≡ Ok n → ⊥) → number_in word ≡ None
none_in word r p never = by_test (test word) refl
  where
    by_test : (b : Bool) → test word ≡ b → number_in word ≡ None
    by_test true e =
        let is = said word e in
        absurd (never (digits_value 10 word) is.0 (parse-decimal 32 (digits_value 10 word) word r (omega (arith, is.1)) (omega (arith, is.1)) is.0 p))
    by_test false e = ap (λ (b : Bool). cond b (Some (digits_value 10 word)) None) e

pub some_in : (word : List ℕ) (n : ℕ) → n ≤ MAX_SETTING → word ≡ decimal n → number_in word ≡ Some n
some_in word n most e =
    let v : digits_value 10 word ≡ n = ap (digits_value 10) e ∙ (decimal_is_IsNumeral n (omega (arith, most))).1 in
    let same : bytes_eq word (decimal (digits_value 10 word)) ≡ true = (bytes_eq-Decides word (decimal (digits_value 10 word))).1 (e ∙ ap decimal (sym v)) in
    let all : test word ≡ true = grind (arith, nat_tests) in
    ap (λ (b : Bool). cond b (Some (digits_value 10 word)) None) all ∙ ap (λ k. Some k) v

pub number_word : (word : List ℕ) (n : ℕ) → number_in word ≡ Some n → (word ≡ decimal n) × (n ≤ MAX_SETTING)
number_word word n e = by_test (test word) refl
  where
    by_test : (b : Bool) → test word ≡ b → (word ≡ decimal n) × (n ≤ MAX_SETTING)
    by_test true f =
        let is = said word f in
        let some : Some (digits_value 10 word) ≡ Some n = ap (λ (b : Bool). cond b (Some (digits_value 10 word)) None) (sym f) ∙ e in
        let same : digits_value 10 word ≡ n = cc in
        (is.0 ∙ ap decimal same, omega (arith, is.1, same))
    by_test false f =
        let none : None ≡ Some n = ap (λ (b : Bool). cond b (Some (digits_value 10 word)) None) (sym f) ∙ e in
        cc

pub word_number : (n : ℕ) → n ≤ MAX_SETTING → number_in (decimal n) ≡ Some n
word_number n most = some_in (decimal n) n most refl

-- ---- texts

text_said : (most : ℕ) (octets : List ℕ) → is_text most octets ≡ true → IsText most octets
text_said most octets e =
    let front = and_left (nat_lt 0 (length octets) && nat_le (length octets) most) (not (begins_with_dash octets)) e in
    let some = and_left (nat_lt 0 (length octets)) (nat_le (length octets) most) front in
    let few = and_right (nat_lt 0 (length octets)) (nat_le (length octets) most) front in
    record {
      some = grind (arith, nat_tests, some);
      few = grind (arith, nat_tests, few);
      plain = not_true (begins_with_dash octets) (and_right (nat_lt 0 (length octets) && nat_le (length octets) most) (not (begins_with_dash octets)) e);
    }

said_text : (most : ℕ) (octets : List ℕ) → IsText most octets → is_text most octets ≡ true
said_text most octets t =
    let some : nat_lt 0 (length octets) ≡ true = grind (arith, nat_tests, t.some) in
    let few : nat_le (length octets) most ≡ true = grind (arith, nat_tests, t.few) in
    and_both _ _ (and_both _ _ some few) (ap not t.plain)

-- ---- values

-- what is said by a test with one value
tested : (form : Form) (b : Bool) (is value : Value) (word : List ℕ) → (b ≡ true → word ≡ word_of is) → (b ≡ true → IsOf form is) → cond b (Some is) None ≡ Some value → (word ≡ word_of value) × IsOf form value
tested form true is value word w i e =
    let same : is ≡ value = cc in
    (w refl ∙ ap word_of same, subst (λ (v : Value). IsOf form v) same (i refl))
tested form false is value word w i e = cc

choice_said : (word : List ℕ) (value : Value) (b : Bool) → bytes_eq word (codes "yes") ≡ b → cond b (Some (choice true)) (cond (bytes_eq word (codes "no")) (Some (choice false)) None) ≡ Some value → (word ≡ word_of value) × IsOf Form.Choice value
choice_said word value true f e =
    let same : choice true ≡ value = cc in
    ((bytes_eq-Decides word (codes "yes")).0 f ∙ ap word_of same, subst (λ (v : Value). IsOf Form.Choice v) same tt)
choice_said word value false f e =
    tested Form.Choice (bytes_eq word (codes "no")) (choice false) value word (λ t. (bytes_eq-Decides word (codes "no")).0 t) (λ t. tt) e

number_said : (least most : ℕ) (word : List ℕ) (value : Value) (o : Option ℕ) → number_in word ≡ o → within least most o ≡ Some value → (word ≡ word_of value) × IsOf (Form.Number least most) value
number_said least most word value None f e = cc
number_said least most word value (Some n) f e =
    tested (Form.Number least most) (nat_le least n && nat_le n most) (number n) value word (λ t. (number_word word n f).0)
    (λ t. in_range t) e
  where
    in_range : (nat_le least n && nat_le n most) ≡ true → (least ≤ n) × (n ≤ most)
    in_range t =
        let low = and_left (nat_le least n) (nat_le n most) t in
        let high = and_right (nat_le least n) (nat_le n most) t in
        (grind (arith, nat_tests, low), grind (arith, nat_tests, high))

-- a word that is read as a value is its word
pub value_said : (form : Form) (word : List ℕ) (value : Value) → value_of_word form word ≡ Some value → (word ≡ word_of value) × IsOf form value
value_said Form.Choice word value e = choice_said word value (bytes_eq word (codes "yes")) refl e
value_said (Form.Number least most) word value e = number_said least most word value (number_in word) refl e
value_said (Form.Octets most) word value e =
    tested (Form.Octets most) (is_text most word) (text word) value word (λ t. refl) (λ t. text_said most word t) e
value_said (Form.Printable most) word value e =
    tested (Form.Printable most) (is_text most word && list_all is_printable word) (text word) value word (λ t. refl)
    (λ t. (text_said most word (and_left _ _ t), and_right _ _ t)) e
value_said Form.Address word value e =
    tested Form.Address (is_text MAX_ADDRESS word) (text word) value word (λ t. refl) (λ t. text_said MAX_ADDRESS word t) e
value_said Form.Raw word value e =
    tested Form.Raw (bytes_eq word (codes "raw")) (text word) value word (λ t. refl) (λ t. (bytes_eq-Decides word (codes "raw")).0 t) e

-- numbers of this form have 32 bits
abbrev pub IsReadable : Form → Type 0
IsReadable Form.Choice = Unit {0}
IsReadable (Form.Number least most) = most ≤ MAX_SETTING
IsReadable (Form.Octets most) = Unit {0}
IsReadable (Form.Printable most) = Unit {0}
IsReadable Form.Address = Unit {0}
IsReadable Form.Raw = Unit {0}

-- the word of a value is read as it
pub value_word : (form : Form) (value : Value) → IsReadable form → IsOf form value → value_of_word form (word_of value) ≡ Some value
value_word Form.Choice (choice true) r i = refl
value_word Form.Choice (choice false) r i = refl
value_word Form.Choice (number n) r i = absurd i
value_word Form.Choice (text octets) r i = absurd i
value_word (Form.Number least most) (choice b) r i = absurd i
value_word (Form.Number least most) (number n) r i =
    let low : nat_le least n ≡ true = grind (arith, nat_tests, i.0) in
    let high : nat_le n most ≡ true = grind (arith, nat_tests, i.1) in
    ap (within least most) (word_number n (omega (arith, r, i.1))) ∙ ap (λ (b : Bool). cond b (Some (number n)) None) (and_both _ _ low high)
value_word (Form.Number least most) (text octets) r i = absurd i
value_word (Form.Octets most) (choice b) r i = absurd i
value_word (Form.Octets most) (number n) r i = absurd i
value_word (Form.Octets most) (text octets) r i = ap (λ (b : Bool). cond b (Some (text octets)) None) (said_text most octets i)
value_word (Form.Printable most) (choice b) r i = absurd i
value_word (Form.Printable most) (number n) r i = absurd i
value_word (Form.Printable most) (text octets) r i =
    ap (λ (b : Bool). cond b (Some (text octets)) None) (and_both _ _ (said_text most octets i.0) i.1)
value_word Form.Address (choice b) r i = absurd i
value_word Form.Address (number n) r i = absurd i
value_word Form.Address (text octets) r i = ap (λ (b : Bool). cond b (Some (text octets)) None) (said_text MAX_ADDRESS octets i)
value_word Form.Raw (choice b) r i = absurd i
value_word Form.Raw (number n) r i = absurd i
value_word Form.Raw (text octets) r i =
    ap (λ (b : Bool). cond b (Some (text octets)) None) ((bytes_eq-Decides octets (codes "raw")).1 i)

-- ---- where there is a form

is_some_value : (o : Option Value) → is_some o ≡ true → (value : Value) × (o ≡ Some value)
is_some_value None e = cc
is_some_value (Some value) e = (value, refl)

-- a word that is taken has a value
pub taken_value : (o : Option Form) (word : List ℕ) → is_of_some o word ≡ true → (value : Value) × (word ≡ word_of value) × IsOfSome o value
taken_value None word e = cc
taken_value (Some form) word e =
    let v = is_some_value (value_of_word form word) e in
    let s = value_said form word v.0 v.1 in
    (v.0, s.0, s.1)

abbrev pub IsReadableSome : Option Form → Type 0
IsReadableSome None = Unit {0}
IsReadableSome (Some form) = IsReadable form

-- the word of a value is taken
pub value_taken : (o : Option Form) (value : Value) → IsReadableSome o → IsOfSome o value → is_of_some o (word_of value) ≡ true
value_taken None value r i = absurd i
value_taken (Some form) value r i = ap is_some (value_word form value r i)
