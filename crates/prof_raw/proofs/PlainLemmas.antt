-- Octets among which a search found none.
use Rattle.std.proofs.Common.{◌≡◌, ℕ, zero, suc, ◌+◌, ◌-◌, ◌<◌, ◌≤◌, Bool, true, false, ◌||◌, ◌==◌, List, [], ◌∷◌, ◌++◌, length, take, drop, get_or, refl, sym, ap, subst, ◌∙◌, arith, length-drop, append_assoc, append-nil, length-take-le}
use Rattle.std.proofs.lemmas.List.{take_rest}
use Rattle.std.proofs.lemmas.Grind.{flat_map-append}
use Rattle.std.proofs.Math.Seq.{take-add, take-suc}
use Rattle.std.specs.List.{slice_range}
use Rattle.memchr.specs.Find.{Nowhere, Passes, is_byte, is_byte3}
use Rattle.prof_raw.specs.Line.{octet_written, octets_written}
use Rattle.prof_raw.specs.Walk.{begins_with_end, piece_len}
use Rattle.prof_raw.proofs.PieceLemmas.{len-plain}

not-so : (b : Bool) → (b ≡ true → ⊥) → b ≡ false
not-so true none = absurd (none refl)
not-so false none = refl

-- what a search from a place on didn't find is none of the octets there
pub none-found : (test : ℕ → Bool) (octets : List ℕ) (from count : ℕ) → Nowhere (Passes test (take (length octets - from) (drop from octets))) 0 count
    → (k : ℕ) → k < count → test (get_or (drop from octets) k 0) ≡ false
none-found test octets from count nowhere k below =
    not-so (test (get_or (drop from octets) k 0))
    (subst (λ (hay : List ℕ). Nowhere (Passes test hay) 0 count) (take_rest octets from) nowhere k (omega arith) below)

-- what it found is
pub found-there : (test : ℕ → Bool) (octets : List ℕ) (from at : ℕ) → Passes test (take (length octets - from) (drop from octets)) at
    → test (get_or (drop from octets) at 0) ≡ true
found-there test octets from at passes = subst (λ (hay : List ℕ). Passes test hay at) (take_rest octets from) passes

-- ---- octets that are written as they are

plain-octet : (x : ℕ) (a b c : Bool) → (x == 10) ≡ a → (x == 13) ≡ b → (x == 92) ≡ c → (a || b || c) ≡ false → octet_written x ≡ x ∷ []
plain-octet x true b c is_a is_b is_c none = absurd (cc none)
plain-octet x false true c is_a is_b is_c none = absurd (cc none)
plain-octet x false false true is_a is_b is_c none = absurd (cc none)
plain-octet x false false false is_a is_b is_c none = rw (is_a, is_b, is_c) refl

pub plain-written : (octets : List ℕ) (n : ℕ) → ((k : ℕ) → k < n → is_byte3 10 13 92 (get_or octets k 0) ≡ false)
    → octets_written (take n octets) ≡ take n octets
plain-written octets zero none = refl
plain-written [] (suc n) none = refl
plain-written (x ∷ octets) (suc n) none =
    ap (λ first. first ++ octets_written (take n octets)) (plain-octet x (x == 10) (x == 13) (x == 92) refl refl refl (none 0 (omega arith)))
    ∙ ap (λ rest. x ∷ rest) (plain-written octets n (λ k below. none (suc k) (omega (arith, below))))

-- ---- octets without a CR

pub no-cr : (octets : List ℕ) (n : ℕ) → n ≤ length octets → ((k : ℕ) → k < n → is_byte 13 (get_or octets k 0) ≡ false)
    → piece_len octets ≡ n + piece_len (drop n octets)
no-cr octets zero within none = omega arith
no-cr [] (suc n) within none = absurd (omega (arith, within))
no-cr (x ∷ octets) (suc n) within none =
    let first : begins_with_end (x ∷ octets) ≡ false = rw (none 0 (omega arith)) refl in
    let rest = no-cr octets n (omega (arith, within)) (λ k below. none (suc k) (omega (arith, below))) in
    let here = len-plain x octets first in
    let more : piece_len (drop (suc n) (x ∷ octets)) ≡ piece_len (drop n octets) = refl in
    omega (arith, here, rest, more)

-- ---- what is written grows

pub grown : (octets before : List ℕ) (at end : ℕ) → at ≤ end → octets_written (slice_range octets at end) ≡ slice_range octets at end
    → (before ++ octets_written (take at octets)) ++ slice_range octets at end ≡ before ++ octets_written (take end octets)
grown octets before at end within plain =
    append_assoc before (octets_written (take at octets)) (slice_range octets at end)
    ∙ ap (λ more. before ++ more)
    (ap (λ more. octets_written (take at octets) ++ more) (sym plain)
    ∙ sym (flat_map-append octet_written (take at octets) (slice_range octets at end))
    ∙ ap octets_written (sym (take-add at (end - at) octets) ∙ ap (λ n. take n octets) (omega (arith, within))))

pub grown-by-one : (octets before : List ℕ) (end : ℕ) → end < length octets
    → (before ++ octets_written (take end octets)) ++ octet_written (get_or octets end 0) ≡ before ++ octets_written (take (end + 1) octets)
grown-by-one octets before end within =
    let next : suc end ≡ end + 1 = omega arith in
    append_assoc before (octets_written (take end octets)) (octet_written (get_or octets end 0))
    ∙ ap (λ more. before ++ more)
    (ap (λ more. octets_written (take end octets) ++ more) (sym (append-nil (octet_written (get_or octets end 0))))
    ∙ sym (flat_map-append octet_written (take end octets) (get_or octets end 0 ∷ []))
    ∙ ap octets_written (sym (take-suc octets end 0 within) ∙ ap (λ n. take n octets) next))

pub range-length : (octets : List ℕ) (at end : ℕ) → end ≤ length octets → length (slice_range octets at end) ≡ end - at
range-length octets at end within =
    length-take-le (end - at) (drop at octets) (let len = length-drop at octets in omega (arith, len, within))
