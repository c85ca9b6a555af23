-- The table of two digits for each number below 100, tried at each of them.
use Rattle.std.proofs.Common.{◌≡◌, ◌+◌, ◌*◌, ◌<◌, ◌/◌, ◌%◌, ◌&&◌, ◌⊎◌, inl, inr, zero, suc, Bool, true, List, ℕ, refl, arith, subst, sym, false, ◌≢◌, codes, nat_eq, slice_index_or}
use Rattle.std.proofs.lemmas.Bool.{eqb-true, and_parts}
use Rattle.std.proofs.lemmas.Bool.Decides.{eqb_tells}
use Rattle.std.proofs.Math.Dec.{eqb}

-- the octets of the table
abbrev pub pairs : List ℕ
pairs = codes "00010203040506070809101112131415161718192021222324252627282930313233343536373839404142434445464748495051525354555657585960616263646566676869707172737475767778798081828384858687888990919293949596979899"

-- whether the table has the digits of this number
abbrev is_right : ℕ → Bool
is_right n = nat_eq (slice_index_or pairs (2 * n) 0) (48 + n / 10) && nat_eq (slice_index_or pairs (2 * n + 1) 0) (48 + n % 10)

-- whether it has those of each number below this one
abbrev all_right : ℕ → Bool
all_right zero = true
all_right (suc n) = is_right n && all_right n

-- what was tried of those below the next number was tried of it and of those below it
one_more : (n k : ℕ) → ((eqb n k ≡ true) × (n ≡ k)) ⊎ ((eqb n k ≡ false) × (n ≢ k)) → n < suc k → (n < k → is_right n ≡ true) → is_right k ≡ true → is_right n ≡ true
one_more n k (inl same) few below here = subst (λ m. is_right m ≡ true) (sym same.1) here
one_more n k (inr other) few below here = below (omega (arith, few, other.1))

-- each number below one that was tried was tried
each_right : (n k : ℕ) → n < k → all_right k ≡ true → is_right n ≡ true
each_right n zero few all = absurd (omega (arith, few))
each_right n (suc k) few all =
    one_more n k (eqb_tells n k) few (λ less. each_right n k less ((and_parts (is_right k) (all_right k) all).1))
    ((and_parts (is_right k) (all_right k) all).0)

-- the tens of a number below 100 stand in the table
pub tens_right : (n : ℕ) → n < 100 → slice_index_or pairs (2 * n) 0 ≡ 48 + n / 10
tens_right n few = eqb-true _ _ ((and_parts _ _ (each_right n 100 few refl)).0)

-- and its ones after them
pub ones_right : (n : ℕ) → n < 100 → slice_index_or pairs (2 * n + 1) 0 ≡ 48 + n % 10
ones_right n few = eqb-true _ _ ((and_parts _ _ (each_right n 100 few refl)).1)
