use Rattle.std.proofs.Common.{◌≡◌, ℕ, ◌+◌, ◌<◌, false, ◌&&◌, List, [], ◌∷◌, ◌++◌, length, take, drop, fold, get_or, None, refl, sym, ap, ◌∙◌, append_assoc, arith}
use Rattle.std.specs.List.{list_all}
use Rattle.std.proofs.lemmas.List.{take-append-drop}
use Rattle.std.proofs.lemmas.List.Sums.{fold_more}
use Rattle.beep_text.specs.declared.element.Item.{Item}
use Rattle.beep_chars.specs.Characters.{is_space}
use Rattle.beep_text.specs.Tree.{Items, nothing}
use Rattle.beep_text.specs.Listed.{with_item, items_listed}
use Rattle.beep_mgmt.specs.Said.{content_text, profiles_said, note_said, is_blank}
use Rattle.beep_mgmt.specs.Parts.{part_text, with_part, is_blank_part}
use Rattle.beep_chars.proofs.BoolLemmas.{and-false, same_either}

-- ---- one more part

pub content_text-with_item : (items : Items) (x : Item) → content_text (with_item items x) ≡ content_text items ++ part_text x
content_text-with_item items (Item.Chars cs) = refl
content_text-with_item items (Item.Child e) = refl

pub content_text-more : (old out new : List ℕ) (xs : List Item) (i : ℕ) (d : Item) → i < length xs → out ≡ old ++ content_text (items_listed (take i xs))
    → new ≡ out ++ part_text (get_or xs i d) → new ≡ old ++ content_text (items_listed (take (i + 1) xs))
content_text-more old out new xs i d within before after =
    after ∙ ap (λ bs. bs ++ part_text (get_or xs i d)) before ∙ append_assoc old _ _
    ∙ ap (λ bs. old ++ bs) (sym (content_text-with_item (items_listed (take i xs)) (get_or xs i d)) ∙ sym (ap content_text (fold_more with_item nothing xs i d within)))

pub profiles_said-with_item : (items : Items) (x : Item) → profiles_said (with_item items x) ≡ with_part (profiles_said items) x
profiles_said-with_item items (Item.Chars cs) = refl
profiles_said-with_item items (Item.Child e) = refl

pub profiles_said-more : (xs : List Item) (i : ℕ) (d : Item) → i < length xs → profiles_said (items_listed (take (i + 1) xs)) ≡ with_part (profiles_said (items_listed (take i xs))) (get_or xs i d)
profiles_said-more xs i d within =
    ap profiles_said (fold_more with_item nothing xs i d within) ∙ profiles_said-with_item (items_listed (take i xs)) (get_or xs i d)

pub is_blank-with_item : (items : Items) (x : Item) → is_blank (with_item items x) ≡ (is_blank items && is_blank_part x)
is_blank-with_item items (Item.Chars cs) = refl
is_blank-with_item items (Item.Child e) = sym (and-false (is_blank items))

-- ---- what stays

-- what one more part doesn't change, more parts don't
stays : {A : Type 0} (f : Items → A) (bad : A) → ((items : Items) (x : Item) → f items ≡ bad → f (with_item items x) ≡ bad)
    → (items : Items) (xs : List Item) → f items ≡ bad → f (fold with_item items xs) ≡ bad
stays f bad keeps items [] is = is
stays f bad keeps items (x ∷ xs) is = stays f bad keeps (with_item items x) xs (keeps items x is)

fold-append : (xs ys : List Item) (items : Items) → fold with_item items (xs ++ ys) ≡ fold with_item (fold with_item items xs) ys
fold-append [] ys items = refl
fold-append (x ∷ xs) ys items = fold-append xs ys (with_item items x)

-- what holds after some parts holds of all
stays_whole : {A : Type 0} (f : Items → A) (bad : A) → ((items : Items) (x : Item) → f items ≡ bad → f (with_item items x) ≡ bad)
    → (xs : List Item) (i : ℕ) → f (items_listed (take i xs)) ≡ bad → f (items_listed xs) ≡ bad
stays_whole f bad keeps xs i is =
    ap (λ ys. f (items_listed ys)) (sym (take-append-drop i xs)) ∙ ap f (fold-append (take i xs) (drop i xs) nothing) ∙ stays f bad keeps (items_listed (take i xs)) (drop i xs) is

with_part-None : (x : Item) → with_part None x ≡ None
with_part-None (Item.Chars cs) = same_either (list_all is_space cs) None
with_part-None (Item.Child e) = refl

pub profiles_said-none : (xs : List Item) (i : ℕ) (d : Item) → i < length xs → with_part (profiles_said (items_listed (take i xs))) (get_or xs i d) ≡ None → profiles_said (items_listed xs) ≡ None
profiles_said-none xs i d within none =
    stays_whole profiles_said None (λ items x is. profiles_said-with_item items x ∙ ap (λ ps. with_part ps x) is ∙ with_part-None x) xs (i + 1) (profiles_said-more xs i d within ∙ none)

is_blank-false : (items : Items) (x : Item) → is_blank items ≡ false → is_blank (with_item items x) ≡ false
is_blank-false items x is = is_blank-with_item items x ∙ ap (λ b. b && is_blank_part x) is

pub not_blank : (xs : List Item) (i : ℕ) (d : Item) → i < length xs → is_blank_part (get_or xs i d) ≡ false → is_blank (items_listed xs) ≡ false
not_blank xs i d within not_part =
    stays_whole is_blank false is_blank-false xs (i + 1)
    (ap is_blank (fold_more with_item nothing xs i d within) ∙ is_blank-with_item (items_listed (take i xs)) (get_or xs i d) ∙ ap (λ b. is_blank (items_listed (take i xs)) && b) not_part ∙ and-false (is_blank (items_listed (take i xs))))

-- ---- characters alone

-- of two parts nothing is a note
no_note : (items : Items) (x y : Item) → note_said (with_item (with_item items x) y) ≡ None
no_note items (Item.Chars cs) (Item.Chars ds) = refl
no_note items (Item.Child e) (Item.Chars ds) = refl
no_note items x (Item.Child e) = refl

no_note_after : (items : Items) (x y : Item) (xs : List Item) → note_said (fold with_item (with_item (with_item items x) y) xs) ≡ None
no_note_after items x y [] = no_note items x y
no_note_after items x y (z ∷ xs) = no_note_after (with_item items x) y z xs

pub no_note_of : (xs : List Item) → 1 < length xs → note_said (items_listed xs) ≡ None
no_note_of [] more = absurd (omega (arith, more))
no_note_of (x ∷ []) more = absurd (omega (arith, more))
no_note_of (x ∷ y ∷ xs) more = no_note_after nothing x y xs
