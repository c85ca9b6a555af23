use Rattle.std.proofs.Common.{◌≡◌, ℕ, zero, suc, ◌<◌, true, List, [], ◌∷◌, chars, refl, arith}
use Rattle.std.specs.List.{list_all}
use Rattle.std.specs.Str.{IsAscii}
use Rattle.std.proofs.lemmas.Bool.Decides.{nat_tests}
use Rattle.std.proofs.lemmas.Str.{chars-IsAscii}
use Rattle.beep_chars.specs.Characters.{is_name, is_begun_name, is_name_start, is_name_char}
use Rattle.beep_chars.proofs.BoolLemmas.{both, left_of, right_of}

name_char-ascii : (c : ℕ) → is_name_char c ≡ true → c < 128
name_char-ascii c is = grind (arith, nat_tests)

start-char : (c : ℕ) → is_name_start c ≡ true → is_name_char c ≡ true
start-char c is = rw is refl

pub all-ascii : (cs : List ℕ) → list_all is_name_char cs ≡ true → IsAscii cs
all-ascii [] are i = omega arith
all-ascii (c ∷ cs) are zero = name_char-ascii c (left_of (is_name_char c) _ are)
all-ascii (c ∷ cs) are (suc i) = all-ascii cs (right_of (is_name_char c) _ are) i

name_chars : (cs : List ℕ) → is_name cs ≡ true → list_all is_name_char cs ≡ true
name_chars [] is = refl
name_chars (c ∷ cs) is =
    let begun = left_of (is_begun_name (c ∷ cs)) _ is in
    both _ _ (start-char c (left_of (is_name_start c) _ begun)) (right_of (is_name_start c) _ begun)

-- the characters of a name are its octets
pub chars-name : (cs : List ℕ) → is_name cs ≡ true → chars cs ≡ cs
chars-name cs is = chars-IsAscii cs (all-ascii cs (name_chars cs is))
