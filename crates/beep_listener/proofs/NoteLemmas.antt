-- Texts of ASCII: the note of a refusal, and a URI.
use Rattle.std.proofs.Common.{◌≡◌, ℕ, Bool, ◌&&◌, suc, zero, nat_lt, true, false, List, [], ◌∷◌, chars, IsAscii, refl, ap, ◌∙◌, arith, ltb-true}
use Rattle.std.specs.List.{list_all}
use Rattle.std.proofs.lemmas.Str.{chars-IsAscii}
use Rattle.beep_steps.specs.beep_chars.specs.Characters.{is_allowed}

left_of : (a b : Bool) → (a && b) ≡ true → a ≡ true
left_of true b e = refl
left_of false b e = cc

right_of : (a b : Bool) → (a && b) ≡ true → b ≡ true
right_of true b e = e
right_of false b e = cc

are-ascii : (cs : List ℕ) → list_all (λ c. nat_lt c 128) cs ≡ true → IsAscii cs
are-ascii [] are i = omega arith
are-ascii (c ∷ cs) are zero = ltb-true c 128 (left_of (nat_lt c 128) _ are)
are-ascii (c ∷ cs) are (suc i) = are-ascii cs (right_of (nat_lt c 128) _ are) i

-- the characters of such a text are its octets
pub plain : (text : List ℕ) → list_all (λ c. nat_lt c 128) text ≡ true → chars text ≡ text
plain text ascii = chars-IsAscii text (are-ascii text ascii)

-- a text of ASCII whose octets are allowed is allowed
pub allowed : (note text : List ℕ) → note ≡ chars text → list_all (λ c. nat_lt c 128) text ≡ true → list_all is_allowed text ≡ true → list_all is_allowed note ≡ true
allowed note text is ascii each = ap (list_all is_allowed) (is ∙ plain text ascii) ∙ each
