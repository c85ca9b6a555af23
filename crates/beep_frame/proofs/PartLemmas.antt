-- What a part's octets are, and that each text of a part is read to its end.
use Rattle.std.proofs.Common.{◌≡◌, ℕ, ◌+◌, ◌-◌, ◌*◌, ◌/◌, ◌%◌, ◌^◌, ◌<◌, ◌≤◌, Bool, true, false, ◌&&◌, ◌||◌, ◌==◌, nat_le, cond, List, [], ◌∷◌, ◌++◌, Option, Some, None, ◌⊎◌, refl, ap, sym, ◌∙◌, arith}
use Rattle.std.specs.Fmt.{decimal}
use Rattle.std.proofs.lemmas.Fmt.{decimal_digit, decimal_step}
use Rattle.std.proofs.lemmas.Bool.Decides.{nat_tests}
use Rattle.beep_frame.specs.declared.line.Part.{Part}
use Rattle.beep_frame.specs.declared.line.PartTurn.{PartTurn}
use Rattle.beep_frame.specs.Machine.{digit_turn_of, octet_turn_of, part_turn}

-- ---- what a part's text is

-- the text of a part with this value
abbrev pub part_text : Part → ℕ → List ℕ
part_text (Part.Octet o) v = o ∷ []
part_text Part.Flag v = v ∷ []
part_text (Part.Number max end) v = decimal v ++ end ∷ []

-- the values that a part may have
abbrev pub FitsPart : Part → ℕ → Type 0
FitsPart (Part.Octet o) v = Unit {0}
FitsPart Part.Flag v = (v ≡ 42) ⊎ (v ≡ 46)
FitsPart (Part.Number max end) v = v ≤ max

-- the bounds of the parts that lines have
abbrev pub IsPart : Part → Type 0
IsPart (Part.Octet o) = Unit {0}
IsPart Part.Flag = Unit {0}
IsPart (Part.Number max end) = (max < 2 ^ 32) × (end < 48) × (9 ≤ max)

-- the digits so far
abbrev pub so_far : Option ℕ → List ℕ
so_far None = []
so_far (Some n) = decimal n

-- the digits that a part may have so far
abbrev pub IsOpen : Part → Option ℕ → Type 0
IsOpen (Part.Octet o) None = Unit {0}
IsOpen (Part.Octet o) (Some n) = ⊥
IsOpen Part.Flag None = Unit {0}
IsOpen Part.Flag (Some n) = ⊥
IsOpen (Part.Number max end) None = Unit {0}
IsOpen (Part.Number max end) (Some n) = n ≤ max

-- ---- what a turn says

abbrev pub PartSound : Part → Option ℕ → ℕ → PartTurn → Type 0
PartSound p number c (PartTurn.Digit m) = IsOpen p (Some m) × (decimal m ≡ so_far number ++ c ∷ [])
PartSound p number c (PartTurn.Whole v) = FitsPart p v × (part_text p v ≡ so_far number ++ c ∷ [])
PartSound p number c PartTurn.Dead = Unit {0}

octet_sound : (o c : ℕ) (b : Bool) → (c == o) ≡ b → PartSound (Part.Octet o) None c (octet_turn_of b c)
octet_sound o c true e = let same : c ≡ o = grind (arith, nat_tests) in (tt, ap (λ x. x ∷ []) (sym same))
octet_sound o c false e = tt

flag_is : (c : ℕ) → ((c == 42) || (c == 46)) ≡ true → (c ≡ 42) ⊎ (c ≡ 46)
flag_is c e = grind (arith, nat_tests)

flag_sound : (c : ℕ) (b : Bool) → ((c == 42) || (c == 46)) ≡ b → PartSound Part.Flag None c (octet_turn_of b c)
flag_sound c true e = (flag_is c e, refl)
flag_sound c false e = tt

in_digits : (c k max : ℕ) → ((nat_le 48 c && nat_le c 57) && nat_le k max) ≡ true → (48 ≤ c) × (c ≤ 57) × (k ≤ max)
in_digits c k max e = (grind (arith, nat_tests), grind (arith, nat_tests), grind (arith, nat_tests))

first_digit : (c : ℕ) → 48 ≤ c → c ≤ 57 → decimal (0 * 10 + (c - 48)) ≡ c ∷ []
first_digit c low high =
    decimal_digit (0 * 10 + (c - 48)) (omega arith) ∙ ap (λ x. x ∷ []) (let e : 48 + (0 * 10 + (c - 48)) ≡ c = omega arith in e)

-- one more digit
pub next_digit : (n c : ℕ) → 0 < n → n * 10 + (c - 48) < 2 ^ 64 → 48 ≤ c → c ≤ 57 → decimal (n * 10 + (c - 48)) ≡ decimal n ++ c ∷ []
next_digit n c some small low high =
    let m : ℕ = n * 10 + (c - 48) in
    let front : m / 10 ≡ n = omega arith in
    let back : 48 + m % 10 ≡ c = omega arith in
    decimal_step m (omega arith) (omega arith) ∙ (rw (front, back) refl)

first_sound : (max end c : ℕ) (b : Bool) → ((nat_le 48 c && nat_le c 57) && nat_le (0 * 10 + (c - 48)) max) ≡ b → PartSound (Part.Number max end) None c (cond b (PartTurn.Digit (0 * 10 + (c - 48))) PartTurn.Dead)
first_sound max end c true e = let d = in_digits c (0 * 10 + (c - 48)) max e in (d.2, first_digit c d.0 d.1)
first_sound max end c false e = tt

next_sound : (max end n c : ℕ) (b : Bool) → max < 2 ^ 32 → 0 < n → ((nat_le 48 c && nat_le c 57) && nat_le (n * 10 + (c - 48)) max) ≡ b → PartSound (Part.Number max end) (Some n) c (cond b (PartTurn.Digit (n * 10 + (c - 48))) PartTurn.Dead)
next_sound max end n c true small some e =
    let d = in_digits c (n * 10 + (c - 48)) max e in
    (d.2, next_digit n c some (omega arith) d.0 d.1)
next_sound max end n c false small some e = tt

zero_sound : (max end n c : ℕ) (b : Bool) → max < 2 ^ 32 → (n == 0) ≡ b → PartSound (Part.Number max end) (Some n) c (cond b PartTurn.Dead (digit_turn_of max n c))
zero_sound max end n c true small e = tt
zero_sound max end n c false small e = let some : 0 < n = grind (arith, nat_tests) in next_sound max end n c _ small some refl

number_sound : (max end n c : ℕ) (b : Bool) → max < 2 ^ 32 → n ≤ max → (c == end) ≡ b → PartSound (Part.Number max end) (Some n) c (cond b (PartTurn.Whole n) (cond (n == 0) PartTurn.Dead (digit_turn_of max n c)))
number_sound max end n c true small fits e = let same : c ≡ end = grind (arith, nat_tests) in (fits, ap (λ x. decimal n ++ x ∷ []) (sym same))
number_sound max end n c false small fits e = zero_sound max end n c _ small refl

-- each turn of a part is a part's text so far
pub part_sound : (p : Part) (number : Option ℕ) (c : ℕ) → IsPart p → IsOpen p number → PartSound p number c (part_turn p number c)
part_sound (Part.Octet o) None c b w = octet_sound o c _ refl
part_sound (Part.Octet o) (Some n) c b w = absurd w
part_sound Part.Flag None c b w = flag_sound c _ refl
part_sound Part.Flag (Some n) c b w = absurd w
part_sound (Part.Number max end) None c b w = first_sound max end c _ refl
part_sound (Part.Number max end) (Some n) c b w = number_sound max end n c _ b.0 w refl
