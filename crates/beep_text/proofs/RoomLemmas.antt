-- A name of an attribute that has room can become a new one.
use Rattle.std.proofs.Common.{◌≡◌, ℕ, zero, suc, ◌+◌, ◌-◌, ◌*◌, ◌/◌, ◌%◌, ◌<◌, ◌≤◌, ◌⊎◌, Bool, true, false, ◌&&◌, ◌||◌, not, nat_lt, if◌then◌else◌, List, [], ◌∷◌, ◌++◌, length, replicate, inl, inr, ⊎_elim, refl, sym, ap, ◌∙◌, append-nil, arith, length-append, ltb-true, lt-ltb}
use Rattle.std.specs.Prelude.{bytes_eq}
use Rattle.std.specs.List.{list_all, list_any, range_with_len}
use Rattle.std.proofs.lemmas.Slice.Eq.{bytes_eq-Decides}
use Rattle.std.proofs.lemmas.List.{append_cancel_left, length-replicate}
use Rattle.std.proofs.lemmas.List.Folds.{list_all-append}
use Rattle.std.proofs.lemmas.Bool.Decides.{nat_tests}
use Rattle.beep_text.specs.declared.attr.Attr.{Attr}
use Rattle.beep_chars.specs.declared.limits.TheConstants.{MAX_NAME}
use Rattle.beep_chars.specs.Characters.{is_name_char}
use Rattle.beep_text.specs.Lawful.{has_name}
use Rattle.beep_text.specs.Machine.{has_room, is_new_with}
use Rattle.beep_text.proofs.WrittenLemmas.{by_test}
use Rattle.beep_text.proofs.RunLemmas.{listed_octet}
use Rattle.beep_text.proofs.ElementLemmas.{left_of, right_of, both, is_false}

-- ---- many names, all apart

letter_of : ℕ → ℕ
letter_of i = if nat_lt i 26 then 65 + i else 71 + i

-- the i-th name of 64 octets that begins so
name_at : List ℕ → ℕ → List ℕ
name_at m i = m ++ (replicate (62 - length m) 97 ++ letter_of (i / 52) ∷ letter_of (i % 52) ∷ [])

letter_apart : (i j : ℕ) → letter_of i ≡ letter_of j → i < 52 → j < 52 → i ≡ j
unfolding letter_of
letter_apart i j same low low2 = grind (arith, nat_tests)

letter_char : (i : ℕ) → i < 52 → is_name_char (letter_of i) ≡ true
unfolding letter_of
letter_char i low = grind (arith, nat_tests)

two_same : (a b c d : ℕ) → a ∷ b ∷ [] ≡ c ∷ d ∷ [] → (a ≡ c) × (b ≡ d)
two_same a b c d same = (cc, cc)

name_apart : (m : List ℕ) (i j : ℕ) → i < 2704 → j < 2704 → name_at m i ≡ name_at m j → i ≡ j
unfolding name_at
name_apart m i j low low2 same =
    let ends = append_cancel_left (replicate (62 - length m) 97) (letter_of (i / 52) ∷ letter_of (i % 52) ∷ []) (letter_of (j / 52) ∷ letter_of (j % 52) ∷ []) (append_cancel_left m _ _ same) in
    let both_same = two_same (letter_of (i / 52)) (letter_of (i % 52)) (letter_of (j / 52)) (letter_of (j % 52)) ends in
    let high = letter_apart (i / 52) (j / 52) both_same.0 (omega arith) (omega arith) in
    let rest = letter_apart (i % 52) (j % 52) both_same.1 (omega arith) (omega arith) in
    omega (arith, high, rest)

length-name_at : (m : List ℕ) (i : ℕ) → length m ≤ 62 → length (name_at m i) ≡ 64
unfolding name_at
length-name_at m i fits = omega (arith, length-append m (replicate (62 - length m) 97 ++ letter_of (i / 52) ∷ letter_of (i % 52) ∷ []), length-append (replicate (62 - length m) 97) (letter_of (i / 52) ∷ letter_of (i % 52) ∷ []), length-replicate {A = ℕ} (62 - length m) 97)

-- ---- counts

abbrev bit : Bool → ℕ
bit b = if b then 1 else 0

-- how many of the first n names an attribute has, and how many of them some attribute has
abbrev hits : List ℕ → Attr → ℕ → ℕ
hits m a zero = 0
hits m a (suc n) = hits m a n + bit (bytes_eq a.name (name_at m n))

abbrev taken_names : List ℕ → List Attr → ℕ → ℕ
taken_names m attrs zero = 0
taken_names m attrs (suc n) = taken_names m attrs n + bit (has_name (name_at m n) attrs)

-- the octets of all names
abbrev pub names_len : List Attr → ℕ
names_len [] = 0
names_len (a ∷ attrs) = length a.name + names_len attrs

no_hits : (m : List ℕ) (a : Attr) (k n : ℕ) → a.name ≡ name_at m k → n ≤ k → k < 2704 → hits m a n ≡ 0
no_hits m a k zero same less low = refl
no_hits m a k (suc n) same less low =
    let before = no_hits m a k n same (omega arith) low in
    let other : bytes_eq a.name (name_at m n) ≡ false = false_unless (bytes_eq a.name (name_at m n)) (λ e. (let is = name_apart m k n low (omega arith) (sym same ∙ (bytes_eq-Decides a.name (name_at m n)).0 e) in absurd (omega (arith, is)))) in
    rw other (omega (arith, before))
  where
    false_unless : (b : Bool) → (b ≡ true → ⊥) → b ≡ false
    false_unless true never = absurd (never refl)
    false_unless false never = refl

-- a name is hit once at most, and then it has 64 octets
one_hit : (m : List ℕ) (a : Attr) (n : ℕ) → length m ≤ 62 → n ≤ 2704 → 64 * hits m a n ≤ length a.name
one_hit m a zero fits low = omega arith
one_hit m a (suc n) fits low = by_bit (bytes_eq a.name (name_at m n)) refl (one_hit m a n fits (omega arith))
  where
    by_bit : (b : Bool) → bytes_eq a.name (name_at m n) ≡ b → 64 * hits m a n ≤ length a.name → 64 * (hits m a n + bit b) ≤ length a.name
    by_bit false is before = omega (arith, before)
    by_bit true is before =
        let same = (bytes_eq-Decides a.name (name_at m n)).0 is in
        omega (arith, no_hits m a n n same (omega arith) (omega arith), ap length same, length-name_at m n fits)

bit_or : (x y : Bool) → bit (x || y) ≤ bit x + bit y
bit_or true y = omega arith
bit_or false y = omega arith

more_taken : (m : List ℕ) (a : Attr) (attrs : List Attr) (n : ℕ) → taken_names m (a ∷ attrs) n ≤ hits m a n + taken_names m attrs n
more_taken m a attrs zero = omega arith
more_taken m a attrs (suc n) = omega (arith, more_taken m a attrs n, bit_or (bytes_eq a.name (name_at m n)) (has_name (name_at m n) attrs))

none_taken : (m : List ℕ) (n : ℕ) → taken_names m [] n ≡ 0
none_taken m zero = refl
none_taken m (suc n) = omega (arith, none_taken m n)

few_taken : (m : List ℕ) (attrs : List Attr) (n : ℕ) → length m ≤ 62 → n ≤ 2704 → 64 * taken_names m attrs n ≤ names_len attrs
few_taken m [] n fits low = omega (arith, none_taken m n)
few_taken m (a ∷ attrs) n fits low = omega (arith, more_taken m a attrs n, one_hit m a n fits low, few_taken m attrs n fits low)

-- one of the first n names is free, or all are taken
free_or_all : (m : List ℕ) (attrs : List Attr) (n : ℕ) → ((i : ℕ) × (i < n) × (has_name (name_at m i) attrs ≡ false)) ⊎ (taken_names m attrs n ≡ n)
free_or_all m attrs zero = inr refl
free_or_all m attrs (suc n) = ⊎_elim (λ f. inl (f.0, omega (arith, f.1), f.2)) (λ all. by_bit (has_name (name_at m n) attrs) refl all) (free_or_all m attrs n)
  where
    by_bit : (b : Bool) → has_name (name_at m n) attrs ≡ b → taken_names m attrs n ≡ n → ((i : ℕ) × (i < suc n) × (has_name (name_at m i) attrs ≡ false)) ⊎ (taken_names m attrs n + bit (has_name (name_at m n) attrs) ≡ suc n)
    by_bit false is all = inl (n, omega arith, is)
    by_bit true is all = inr (rw is (omega (arith, all)))

-- ---- a longer name that is new

abbrev pub Longer : List ℕ → List Attr → Type 0
Longer m attrs = (more : List ℕ) × (list_all is_name_char more ≡ true) × (length m + length more ≤ 64) × (has_name (m ++ more) attrs ≡ false)

all_a : (n : ℕ) → list_all is_name_char (replicate n 97) ≡ true
all_a zero = refl
all_a (suc n) = all_a n

too_many : (n taken len : ℕ) → 64 * taken ≤ len → taken ≡ n → len ≤ 65536 → n ≡ 1025 → ⊥
too_many n taken len few all small is = absurd (omega arith)

far_by : (n : ℕ) (m : List ℕ) (attrs : List Attr) → n ≡ 1025 → length m ≤ 62 → names_len attrs ≤ 65536 → Longer m attrs
unfolding name_at
far_by n m attrs is fits small = ⊎_elim
    (λ f. (
      replicate (62 - length m) 97 ++ letter_of (f.0 / 52) ∷ letter_of (f.0 % 52) ∷ [],
      list_all-append is_name_char (replicate (62 - length m) 97) _ ∙ both _ _ (all_a (62 - length m)) (both _ _ (letter_char (f.0 / 52) (let low = f.1 in omega arith)) (both _ _ (letter_char (f.0 % 52) (omega arith)) refl)),
      omega (arith, length-append (replicate (62 - length m) 97) (letter_of (f.0 / 52) ∷ letter_of (f.0 % 52) ∷ []), length-replicate {A = ℕ} (62 - length m) 97),
      f.2,
    ))
    (λ all. absurd (too_many n (taken_names m attrs n) (names_len attrs) (few_taken m attrs n fits (omega (arith, is))) all small is)) (free_or_all m attrs n)

far : (m : List ℕ) (attrs : List Attr) → length m ≤ 62 → names_len attrs ≤ 65536 → Longer m attrs
far m attrs fits small = far_by 1025 m attrs refl fits small

found : (p : ℕ → Bool) (xs : List ℕ) → list_any p xs ≡ true → (c : ℕ) × (p c ≡ true)
found p [] is = absurd (cc is)
found p (x ∷ xs) is = elim (p x) as (λ b. p x ≡ b → (c : ℕ) × (p c ≡ true)) [ true ↦ λ e. (x, e) | false ↦ λ e. found p xs (rest (p x) (list_any p xs) e is) ] refl
  where
    rest : (a b : Bool) → a ≡ false → (a || b) ≡ true → b ≡ true
    rest true b e _ = absurd (cc e)
    rest false b _ is = is

near : (m : List ℕ) (attrs : List Attr) → (nat_lt (length m) MAX_NAME && list_any (λ c. is_name_char c && not (has_name (m ++ c ∷ []) attrs)) (range_with_len 0 128)) ≡ true → Longer m attrs
near m attrs is =
    let one = found (λ c. is_name_char c && not (has_name (m ++ c ∷ []) attrs)) (range_with_len 0 128) (right_of (nat_lt (length m) MAX_NAME) _ is) in
    (one.0 ∷ [], both _ _ (left_of (is_name_char one.0) _ one.1) refl, (let small = ltb-true (length m) MAX_NAME (left_of _ _ is) in omega (arith, small)), is_false _ (right_of (is_name_char one.0) _ one.1))

-- where a name has room, it can become a new one
pub longer : (m : List ℕ) (attrs : List Attr) → length m ≤ 64 → names_len attrs ≤ 65536 → has_room m attrs ≡ true → Longer m attrs
unfolding has_room
longer m attrs fits small room =
    elim (nat_lt (length m) 63) as (λ b. nat_lt (length m) 63 ≡ b → Longer m attrs) [
      | true ↦ λ less. (let low = ltb-true (length m) 63 less in far m attrs (omega (arith, low)) small)
      | false ↦ λ not_less. elim (has_name m attrs) as (λ b. has_name m attrs ≡ b → Longer m attrs) [
        | true ↦ λ has. near m attrs (pick (nat_lt (length m) 63) (has_name m attrs) _ not_less has room)
        | false ↦ λ new. ([], refl, omega (arith, fits), ap (λ x. has_name x attrs) (append-nil m) ∙ new)
      ] refl
    ] refl
  where
    pick : (x y z : Bool) → x ≡ false → y ≡ true → (if x then true else (if y then z else true)) ≡ true → z ≡ true
    pick true y z e f is = absurd (cc e)
    pick false true z e f is = is
    pick false false z e f is = absurd (cc f)

-- an octet that makes a name new gives it room
pub room_found : (name : List ℕ) (attrs : List Attr) (k : ℕ) → length name < 64 → k < 128 → is_new_with name attrs k ≡ true → true ≡ has_room name attrs
unfolding has_room
room_found name attrs k small low new =
    by_test (λ (x : Bool). true ≡ x) (nat_lt (length name) 63) (λ _. refl) (λ _. by_test (λ (x : Bool). true ≡ x) (has_name name attrs) (λ _. sym (both _ _ (lt-ltb (length name) MAX_NAME small) (listed_octet (is_new_with name attrs) k low new))) (λ _. refl))
