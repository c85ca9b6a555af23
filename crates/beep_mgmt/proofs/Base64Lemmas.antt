use Rattle.std.proofs.Common.{◌≡◌, ℕ, zero, suc, ◌+◌, ◌*◌, ◌/◌, ◌%◌, ◌<◌, Bool, true, ◌&&◌, not, nat_lt, List, [], ◌∷◌, ◌++◌, length, replicate, slice_index, refl, ap, ◌∙◌, arith, lt-ltb, ltb-true, Ok, encode_utf8_all}
use Rattle.std.specs.List.{list_all, filter}
use Rattle.std.proofs.lemmas.List.Folds.{list_all-append}
use Rattle.std.proofs.lemmas.Str.{encode_ascii}
use Rattle.std.proofs.lemmas.Bool.Decides.{nat_tests}
use Rattle.base64.specs.GeneralPurpose.{encode_of, decode_of, IsBytes, IsConsistent}
use Rattle.base64.specs.Engines.{standard}
use Rattle.base64.specs.Rfc4648.{encode_symbols, encode_group, padding_len}
use Rattle.base64.proofs.EngineFacts.{decode_of-encode_of}
use Rattle.beep_chars.specs.Characters.{is_space, is_allowed}
use Rattle.beep_mgmt.specs.Sized.{is_octet}
use Rattle.beep_chars.proofs.BoolLemmas.{both, left_of, right_of}

-- the octet is printable and no white space
abbrev pub is_symbol : ℕ → Bool
is_symbol c = nat_lt 32 c && nat_lt c 127

all_at : (p : ℕ → Bool) (t : List ℕ) (i : ℕ) → list_all p t ≡ true → i < length t → p (slice_index t i) ≡ true
all_at p [] i are within = absurd (omega (arith, within))
all_at p (c ∷ t) zero are within = left_of (p c) _ are
all_at p (c ∷ t) (suc i) are within = all_at p t i (right_of (p c) _ are) (omega (arith, within))

symbol_at : (i : ℕ) → i < 64 → is_symbol (slice_index standard.encode_table i) ≡ true
symbol_at i within = all_at is_symbol standard.encode_table i refl within

abbrev at : ℕ → ℕ
at i = slice_index standard.encode_table i

one_at : (i : ℕ) → i < 64 → list_all is_symbol (at i ∷ []) ≡ true
one_at i x = both (is_symbol (at i)) true (symbol_at i x) refl

two_at : (i j : ℕ) → i < 64 → j < 64 → list_all is_symbol (at i ∷ at j ∷ []) ≡ true
two_at i j x y = both (is_symbol (at i)) _ (symbol_at i x) (one_at j y)

three_at : (i j k : ℕ) → i < 64 → j < 64 → k < 64 → list_all is_symbol (at i ∷ at j ∷ at k ∷ []) ≡ true
three_at i j k x y z = both (is_symbol (at i)) _ (symbol_at i x) (two_at j k y z)

four_at : (i j k l : ℕ) → i < 64 → j < 64 → k < 64 → l < 64 → list_all is_symbol (at i ∷ at j ∷ at k ∷ at l ∷ []) ≡ true
four_at i j k l x y z w = both (is_symbol (at i)) _ (symbol_at i x) (three_at j k l y z w)

are_symbols : (m : List ℕ) → IsBytes m → list_all is_symbol (encode_symbols standard.encode_table m) ≡ true
unfolding encode_symbols
are_symbols [] bytes = refl
are_symbols (a ∷ []) bytes =
    let first : a < 256 = bytes 0 in
    two_at (a / 4) (a % 4 * 16) (omega arith) (omega arith)
are_symbols (a ∷ b ∷ []) bytes =
    let first : a < 256 = bytes 0 in
    let second : b < 256 = bytes 1 in
    three_at (a / 4) (a % 4 * 16 + b / 16) (b % 16 * 4) (omega arith) (omega arith) (omega arith)
are_symbols (a ∷ b ∷ c ∷ rest) bytes =
    let first : a < 256 = bytes 0 in
    let second : b < 256 = bytes 1 in
    let third : c < 256 = bytes 2 in
    list_all-append is_symbol (encode_group standard.encode_table a b c) (encode_symbols standard.encode_table rest)
    ∙ both _ _ (four_at (a / 4) (a % 4 * 16 + b / 16) (b % 16 * 4 + c / 64) (c % 64) (omega arith) (omega arith) (omega arith) (omega arith))
    (are_symbols rest (λ i. bytes (suc (suc (suc i)))))

are_padding : (n : ℕ) → list_all is_symbol (replicate n 61) ≡ true
are_padding zero = refl
are_padding (suc n) = are_padding n

-- Base64 is printable, without white space
pub encoded-symbols : (m : List ℕ) → IsBytes m → list_all is_symbol (encode_of standard m) ≡ true
encoded-symbols m bytes =
    list_all-append is_symbol (encode_symbols standard.encode_table m) (replicate (padding_len (length m)) 61) ∙ both _ _ (are_symbols m bytes) (are_padding (padding_len (length m)))

symbol-allowed : (c : ℕ) → is_symbol c ≡ true → is_allowed c ≡ true
symbol-allowed c is = grind (arith, nat_tests)

symbol-unspaced : (c : ℕ) → is_symbol c ≡ true → not (is_space c) ≡ true
symbol-unspaced c is = grind (arith, nat_tests)

pub symbols-allowed : (cs : List ℕ) → list_all is_symbol cs ≡ true → list_all is_allowed cs ≡ true
symbols-allowed [] are = refl
symbols-allowed (c ∷ cs) are = both _ _ (symbol-allowed c (left_of (is_symbol c) _ are)) (symbols-allowed cs (right_of (is_symbol c) _ are))

-- no white space is taken out
pub symbols-filtered : (cs : List ℕ) → list_all is_symbol cs ≡ true → filter (λ c. not (is_space c)) cs ≡ cs
symbols-filtered [] are = refl
symbols-filtered (c ∷ cs) are = rw (symbol-unspaced c (left_of (is_symbol c) _ are), symbols-filtered cs (right_of (is_symbol c) _ are)) refl

symbol-ascii : (c : ℕ) → is_symbol c ≡ true → c < 128
symbol-ascii c is = grind (arith, nat_tests)

-- the octets of symbols are their characters
pub symbols-encoded : (cs : List ℕ) → list_all is_symbol cs ≡ true → encode_utf8_all cs ≡ cs
symbols-encoded [] are = refl
symbols-encoded (c ∷ cs) are =
    ap (λ bs. bs ++ encode_utf8_all cs) (encode_ascii c (symbol-ascii c (left_of (is_symbol c) _ are))) ∙ ap (λ bs. c ∷ bs) (symbols-encoded cs (right_of (is_symbol c) _ are))

consistent : IsConsistent standard
consistent = refl

pub decoded-encoded : (m : List ℕ) → IsBytes m → decode_of standard (encode_of standard m) ≡ Ok m
decoded-encoded m bytes = decode_of-encode_of standard m consistent bytes

-- ---- octets

pub octets_from : (cs : List ℕ) → IsBytes cs → list_all is_octet cs ≡ true
octets_from [] bytes = refl
octets_from (c ∷ cs) bytes = both (is_octet c) _ (lt-ltb c 256 (bytes 0)) (octets_from cs (λ i. bytes (suc i)))

pub octets_are : (cs : List ℕ) → list_all is_octet cs ≡ true → IsBytes cs
octets_are [] are i = omega arith
octets_are (c ∷ cs) are zero = ltb-true c 256 (left_of (is_octet c) _ are)
octets_are (c ∷ cs) are (suc i) = octets_are cs (right_of (is_octet c) _ are) i
