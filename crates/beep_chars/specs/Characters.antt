-- Which characters a text may have, and what a name is.
-- Choice: names have letters of ASCII alone, and at most `MAX_NAME` octets (docs/DECISIONS.md,
-- "Names of elements").
use Rattle.std.specs.Prelude.{ℕ, Bool, false, ◌&&◌, ◌||◌, nat_le, ◌==◌, List, [], ◌∷◌, length}
use Rattle.std.specs.List.{list_all}
use Rattle.beep_chars.specs.declared.limits.TheConstants.{MAX_NAME}

-- the character is white space
abbrev pub is_space : ℕ → Bool
is_space c = c == 32 || c == 9 || c == 13 || c == 10

-- a text may have the character
abbrev pub is_allowed : ℕ → Bool
is_allowed c =
    (c == 9 || c == 10 || c == 13)
    || (nat_le 32 c && nat_le c 0xD7FF) || (nat_le 0xE000 c && nat_le c 0xFFFD)
    || (nat_le 0x10000 c && nat_le c 0x10FFFF)

-- the character is a digit
abbrev pub is_digit : ℕ → Bool
is_digit c = nat_le 48 c && nat_le c 57

-- a name may begin with the character
abbrev pub is_name_start : ℕ → Bool
is_name_start c = (nat_le 65 c && nat_le c 90) || (nat_le 97 c && nat_le c 122) || c == 95

-- a name may go on with the character
abbrev pub is_name_char : ℕ → Bool
is_name_char c = is_name_start c || is_digit c || c == 45 || c == 46 || c == 58

-- the characters begin as a name
abbrev pub is_begun_name : List ℕ → Bool
is_begun_name [] = false
is_begun_name (c ∷ cs) = is_name_start c && list_all is_name_char cs

-- the characters are a name
abbrev pub is_name : List ℕ → Bool
is_name cs = is_begun_name cs && nat_le (length cs) MAX_NAME
