-- The words of an option and its value, and the words after them.
use Rattle.std.proofs.Common.{◌≡◌, ℕ, ◌≤◌, ◌-◌, Bool, true, false, not, ◌&&◌, List, [], ◌∷◌, length, map, take, drop, get_or, ap, ap₂, sym, ◌∙◌, arith}
use Rattle.std.proofs.lemmas.List.{take_all}
use Rattle.beep_words.specs.CommandSet.{OptionRow, form_in}
use Rattle.beep_words.specs.Choosing.{is_of_some, is_among, are_options}

-- the first two words and the others, with what they are looked at for
pub two_words : {A : Type 0} (text : A → List ℕ) (words others : List A) (first second : A) (one two : List ℕ) → 2 ≤ length words
    → first ≡ get_or words 0 first → second ≡ get_or words 1 second → one ≡ text first → two ≡ text second
    → others ≡ take (length words - 2) (drop 2 words) → map text words ≡ one ∷ two ∷ map text others
two_words text [] others first second one two h a b f g e = absurd (omega arith)
two_words text (w ∷ []) others first second one two h a b f g e = absurd (omega arith)
two_words text (w ∷ v ∷ words) others first second one two h a b f g e =
    let all : others ≡ words = e ∙ take_all (length (w ∷ v ∷ words) - 2) words (omega arith) in
    let known : text w ∷ text v ∷ map text words ≡ one ∷ two ∷ map text words = ap₂ (λ x y. x ∷ y ∷ map text words) (ap text (sym a) ∙ sym f) (ap text (sym b) ∙ sym g) in
    known ∙ ap (λ xs. one ∷ two ∷ map text xs) (sym all)

-- the test of a first option, and that of the others
options_first : (rows : List OptionRow) (name word : List ℕ) (words others : List (List ℕ)) (first : Bool) → words ≡ name ∷ word ∷ others
    → first ≡ (is_of_some (form_in rows name) word && not (is_among name others)) → (first && are_options rows others) ≡ are_options rows words
options_first rows name word words others first e f = ap (λ (b : Bool). b && are_options rows others) f ∙ ap (are_options rows) (sym e)

pub options_then : (rows : List OptionRow) (name word : List ℕ) (words others : List (List ℕ)) (first rest : Bool) → words ≡ name ∷ word ∷ others
    → first ≡ (is_of_some (form_in rows name) word && not (is_among name others)) → first ≡ true → rest ≡ are_options rows others → rest ≡ are_options rows words
options_then rows name word words others first rest e f t r =
    r ∙ ap (λ (b : Bool). b && are_options rows others) (sym t) ∙ options_first rows name word words others first e f

pub options_else : (rows : List OptionRow) (name word : List ℕ) (words others : List (List ℕ)) (first : Bool) → words ≡ name ∷ word ∷ others
    → first ≡ (is_of_some (form_in rows name) word && not (is_among name others)) → first ≡ false → first ≡ are_options rows words
options_else rows name word words others first e f t =
    t ∙ ap (λ (b : Bool). b && are_options rows others) (sym t) ∙ options_first rows name word words others first e f
