-- The texts that go with codes, as characters.
use Rattle.std.proofs.Common.{◌≡◌, ◌≢◌, ◌⊎◌, ⊎_elim, ℕ, suc, zero, nat_lt, true, List, [], ◌∷◌, chars, codes, IsAscii, refl, sym, ap, ◌∙◌, arith, ltb-true, ne_eqb}
use Rattle.std.specs.List.{list_all}
use Rattle.std.proofs.lemmas.Str.{chars-IsAscii, chars-nil}
use Rattle.beep_chars.proofs.BoolLemmas.{left_of, right_of}
use Rattle.beep_decide.specs.Decide.{note_of}

are-ascii : (cs : List ℕ) → list_all (λ c. nat_lt c 128) cs ≡ true → IsAscii cs
are-ascii [] are i = omega arith
are-ascii (c ∷ cs) are zero = ltb-true c 128 (left_of (nat_lt c 128) _ are)
are-ascii (c ∷ cs) are (suc i) = are-ascii cs (right_of (nat_lt c 128) _ are) i

-- the text of a code, where it has ASCII characters alone
pub note-text : (code known : ℕ) (text : List ℕ) → code ≡ known → list_all (λ c. nat_lt c 128) text ≡ true → text ≡ note_of known → chars text ≡ note_of code
note-text code known text is are same = chars-IsAscii text (are-ascii text are) ∙ same ∙ sym (ap note_of is)

pub note-either : (code : ℕ) → (code ≡ 450) ⊎ (code ≡ 550) → chars (codes "requested action not taken") ≡ note_of code
note-either code is =
    ⊎_elim (λ first. note-text code 450 (codes "requested action not taken") first refl refl)
    (λ second. note-text code 550 (codes "requested action not taken") second refl refl) is

pub no-note : (code : ℕ) → code ≢ 450 → code ≢ 550 → code ≢ 451 → code ≢ 500 → code ≢ 501 → code ≢ 504 → code ≢ 537 → code ≢ 553 → chars [] ≡ note_of code
no-note code a b c d e f g h =
    chars-nil ∙ rw (ne_eqb code 450 a, ne_eqb code 550 b, ne_eqb code 451 c, ne_eqb code 500 d, ne_eqb code 501 e, ne_eqb code 504 f, ne_eqb code 537 g, ne_eqb code 553 h) refl
