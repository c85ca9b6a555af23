use Rattle.std.proofs.Common.{◌≡◌, ◌<◌, ℕ, true, List, [], ◌∷◌, ◌++◌, length, chars, encode_utf8, encode_utf8_all, IsUtf8, refl, sym, ap, ◌∙◌, append-nil, arith, length-append}
use Rattle.std.specs.Prelude.{bytes_eq}
use Rattle.std.proofs.Common.{Decides}
use Rattle.std.proofs.lemmas.Slice.Eq.{bytes_eq-Decides}
use Rattle.std.proofs.lemmas.Bool.Decides.{same_from_decides}
use Rattle.std.proofs.lemmas.Str.{chars-append, chars-encodes, encodes-chars, length-encode, len_utf8_bounds, length-le-encodes}
use lib.Utf8.{scalar}

-- the character of its octets
pub chars-encode : (c : ℕ) → scalar c ≡ true → chars (encode_utf8 c) ≡ c ∷ []
chars-encode c is = ap chars (sym (append-nil (encode_utf8 c))) ∙ chars-encodes (c ∷ []) (rw is refl)

-- a character more in the octets is one more in the list
pub chars-push : (bs : List ℕ) (c : ℕ) → IsUtf8 bs → scalar c ≡ true → chars (bs ++ encode_utf8 c) ≡ chars bs ++ c ∷ []
chars-push bs c utf8 is = chars-append bs (encode_utf8 c) utf8 ∙ ap (λ x. chars bs ++ x) (chars-encode c is)

-- there are fewer characters than octets once another character's octets follow
pub chars-fewer : (bs : List ℕ) (n c : ℕ) → IsUtf8 bs → n ≡ length (chars bs) → n < length (bs ++ encode_utf8 c)
chars-fewer bs n c utf8 is =
    let bound = length-le-encodes (chars bs) in
    omega (arith, is, bound, ap length (encodes-chars bs utf8), length-append bs (encode_utf8 c), length-encode c, len_utf8_bounds c)

-- texts are the same where their characters are
pub bytes_eq-chars : (a b : List ℕ) → IsUtf8 a → IsUtf8 b → bytes_eq a b ≡ bytes_eq (chars a) (chars b)
bytes_eq-chars a b first second =
    let by_chars : Decides (bytes_eq (chars a) (chars b)) (a ≡ b) =
    (λ e. sym (encodes-chars a first) ∙ ap encode_utf8_all ((bytes_eq-Decides (chars a) (chars b)).0 e) ∙ encodes-chars b second, λ e. (bytes_eq-Decides (chars a) (chars b)).1 (ap chars e)) in
    same_from_decides _ _ (bytes_eq-Decides a b) by_chars
