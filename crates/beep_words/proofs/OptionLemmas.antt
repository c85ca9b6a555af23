-- Words are options and their values, and what an option is set to.
use Rattle.std.proofs.Common.{◌≡◌, ℕ, ◌≤◌, Bool, true, false, not, ◌&&◌, ◌||◌, cond, List, [], ◌∷◌, codes, chars, Option, Some, None, inl, inr, refl, ap, ap₂, sym, ◌∙◌, subst, arith}
use Rattle.std.specs.List.{flat_map, AllByRecursion}
use Rattle.std.specs.Fmt.{decimal}
use Rattle.std.specs.Str.{bytes_eq}
use Rattle.std.proofs.lemmas.Slice.Eq.{bytes_eq-Decides}
use Rattle.beep_words.specs.declared.options.TheConstants.{MAX_SETTING}
use Rattle.beep_words.specs.CommandSet.{Value, choice, number, text, word_of, OptionRow, Chosen, words_of, form_in, IsOfSome, IsTaken, IsSet, AreDistinct, value_in, number_of, number_set, IsTextOf}
use Rattle.beep_words.specs.Choosing.{is_among, are_options, is_of_some, word_in, some_or, number_or, number_at, number_where, number_set_at, choice_or, choice_at, text_at}
use Rattle.beep_words.proofs.ValueLemmas.{and_left, and_right, and_both, not_true, word_number, taken_value, value_taken, IsReadableSome}

-- ---- options among words

or_true : (b : Bool) → (b || true) ≡ true
or_true true = refl
or_true false = refl

among_set : (name : List ℕ) (chosen : List Chosen) → is_among name (flat_map words_of chosen) ≡ true → IsSet name chosen
among_set name [] e = cc
among_set name (c ∷ chosen) e = by_test (bytes_eq c.name name) refl (λ f. among_set name chosen f)
  where
    by_test : (b : Bool) → bytes_eq c.name name ≡ b → (is_among name (flat_map words_of chosen) ≡ true → IsSet name chosen) → IsSet name (c ∷ chosen)
    by_test true f rest = inl (sym ((bytes_eq-Decides c.name name).0 f))
    by_test false f rest = inr (rest (ap (λ (b : Bool). b || is_among name (flat_map words_of chosen)) (sym f) ∙ e))

set_among : (name : List ℕ) (chosen : List Chosen) → IsSet name chosen → is_among name (flat_map words_of chosen) ≡ true
set_among name [] s = absurd s
set_among name (c ∷ chosen) (inl e) =
    ap (λ (b : Bool). b || is_among name (flat_map words_of chosen)) ((bytes_eq-Decides c.name name).1 (sym e))
set_among name (c ∷ chosen) (inr s) = ap (λ (b : Bool). bytes_eq c.name name || b) (set_among name chosen s) ∙ or_true (bytes_eq c.name name)

not_among : (name : List ℕ) (chosen : List Chosen) → (IsSet name chosen → ⊥) → is_among name (flat_map words_of chosen) ≡ false
not_among name chosen unset = by_test (is_among name (flat_map words_of chosen)) refl
  where
    by_test : (b : Bool) → is_among name (flat_map words_of chosen) ≡ b → is_among name (flat_map words_of chosen) ≡ false
    by_test true f = absurd (unset (among_set name chosen f))
    by_test false f = f

-- ---- from words to options, and back

-- the words are those of options of these
pub record AreChosen (rows : List OptionRow) (words : List (List ℕ)) : Type 0 where
  pub chosen : List Chosen
  pub each : AllByRecursion (IsTaken rows) chosen
  pub distinct : AreDistinct chosen
  pub words_are : words ≡ flat_map words_of chosen

pub chosen_in : (rows : List OptionRow) (words : List (List ℕ)) → are_options rows words ≡ true → AreChosen rows words
chosen_in rows [] e = record { chosen = []; each = tt; distinct = tt; words_are = refl }
chosen_in rows (name ∷ []) e = cc
chosen_in rows (name ∷ word ∷ words) e =
    let front = and_left (is_of_some (form_in rows name) word && not (is_among name words)) (are_options rows words) e in
    let r = chosen_in rows words (and_right (is_of_some (form_in rows name) word && not (is_among name words)) (are_options rows words) e) in
    let v = taken_value (form_in rows name) word (and_left (is_of_some (form_in rows name) word) (not (is_among name words)) front) in
    let other : is_among name words ≡ false = not_true (is_among name words) (and_right (is_of_some (form_in rows name) word) (not (is_among name words)) front) in
    record {
      chosen = record { name = name; value = v.0 } ∷ r.chosen;
      each = (v.2, r.each);
      distinct = (λ s. let two : true ≡ false = sym (set_among name r.chosen s) ∙ ap (is_among name) (sym r.words_are) ∙ other in cc, r.distinct);
      words_are = ap₂ (λ w ws. name ∷ w ∷ ws) v.1 r.words_are;
    }

-- each number that an option takes has 32 bits
abbrev pub AreReadable : List OptionRow → Type 0
AreReadable rows = (name : List ℕ) → IsReadableSome (form_in rows name)

pub words_are_options : (rows : List OptionRow) → AreReadable rows → (chosen : List Chosen) → AllByRecursion (IsTaken rows) chosen → AreDistinct chosen → are_options rows (flat_map words_of chosen) ≡ true
words_are_options rows r [] each distinct = refl
words_are_options rows r (c ∷ chosen) each distinct =
    and_both _ _ (and_both _ _ (value_taken (form_in rows c.name) c.value (r c.name) each.0) (ap not (not_among c.name chosen distinct.0)))
    (words_are_options rows r chosen each.1 distinct.1)

-- ---- what an option is set to

-- a number up to this one
abbrev pub IsNumberTo : ℕ → Value → Type 0
IsNumberTo most (choice b) = ⊥
IsNumberTo most (number n) = n ≤ most
IsNumberTo most (text octets) = ⊥

abbrev pub IsChoice : Value → Type 0
IsChoice (choice b) = Unit {0}
IsChoice (number n) = ⊥
IsChoice (text octets) = ⊥

abbrev pub IsTextual : Value → Type 0
IsTextual (choice b) = ⊥
IsTextual (number n) = ⊥
IsTextual (text octets) = Unit {0}

-- the values that these options take by a name are of this kind
abbrev pub Takes : List OptionRow → List ℕ → (Value → Type 0) → Type 0
Takes rows name P = (value : Value) → IsOfSome (form_in rows name) value → P value

set_number : (default most : ℕ) (value : Value) → most ≤ MAX_SETTING → IsNumberTo most value → number (number_or default (Some (word_of value))) ≡ value
set_number default most (choice b) m i = absurd i
set_number default most (number n) m i = ap (λ (o : Option ℕ). number (some_or default o)) (word_number n (omega (arith, m, i)))
set_number default most (text octets) m i = absurd i

set_where : (most : ℕ) (value : Value) → most ≤ MAX_SETTING → IsNumberTo most value → number_where (Some (word_of value)) ≡ number_of value
set_where most (choice b) m i = absurd i
set_where most (number n) m i = word_number n (omega (arith, m, i))
set_where most (text octets) m i = absurd i

set_choice : (default : Bool) (value : Value) → IsChoice value → choice (choice_or default (Some (word_of value))) ≡ value
set_choice default (choice true) i = refl
set_choice default (choice false) i = refl
set_choice default (number n) i = absurd i
set_choice default (text octets) i = absurd i

set_text : (value : Value) → IsTextual value → text (word_of value) ≡ value
set_text (choice b) i = absurd i
set_text (number n) i = absurd i
set_text (text octets) i = refl

module _ (rows : List OptionRow) (name : List ℕ) where
  taken_as : (P : Value → Type 0) → Takes rows name P → (c : Chosen) → IsTaken rows c → bytes_eq c.name name ≡ true → P c.value
  taken_as P takes c t f = takes c.value (subst (λ (n : List ℕ). IsOfSome (form_in rows n) c.value) ((bytes_eq-Decides c.name name).0 f) t)

  pub number_is : (default most : ℕ) → most ≤ MAX_SETTING → Takes rows name (IsNumberTo most) → (chosen : List Chosen) → AllByRecursion (IsTaken rows) chosen → number (number_at name default (flat_map words_of chosen)) ≡ value_in name (number default) chosen
  number_is default most m takes [] each = refl
  number_is default most m takes (c ∷ chosen) each = by_test (bytes_eq c.name name) refl (number_is default most m takes chosen each.1)
    where
      by_test : (b : Bool) → bytes_eq c.name name ≡ b → number (number_at name default (flat_map words_of chosen)) ≡ value_in name (number default) chosen → number (number_at name default (flat_map words_of (c ∷ chosen))) ≡ value_in name (number default) (c ∷ chosen)
      by_test true f rest =
          ap (λ (b : Bool). number (number_or default (cond b (Some (word_of c.value)) (word_in name (flat_map words_of chosen))))) f
          ∙ set_number default most c.value m (taken_as (IsNumberTo most) takes c each.0 f)
          ∙ sym (ap (λ (b : Bool). cond b c.value (value_in name (number default) chosen)) f)
      by_test false f rest =
          ap (λ (b : Bool). number (number_or default (cond b (Some (word_of c.value)) (word_in name (flat_map words_of chosen))))) f
          ∙ rest ∙ sym (ap (λ (b : Bool). cond b c.value (value_in name (number default) chosen)) f)

  pub number_set_is : (most : ℕ) → most ≤ MAX_SETTING → Takes rows name (IsNumberTo most) → (chosen : List Chosen) → AllByRecursion (IsTaken rows) chosen → number_set_at name (flat_map words_of chosen) ≡ number_set name chosen
  number_set_is most m takes [] each = refl
  number_set_is most m takes (c ∷ chosen) each = by_test (bytes_eq c.name name) refl (number_set_is most m takes chosen each.1)
    where
      by_test : (b : Bool) → bytes_eq c.name name ≡ b → number_set_at name (flat_map words_of chosen) ≡ number_set name chosen → number_set_at name (flat_map words_of (c ∷ chosen)) ≡ number_set name (c ∷ chosen)
      by_test true f rest =
          ap (λ (b : Bool). number_where (cond b (Some (word_of c.value)) (word_in name (flat_map words_of chosen)))) f
          ∙ set_where most c.value m (taken_as (IsNumberTo most) takes c each.0 f)
          ∙ sym (ap (λ (b : Bool). cond b (number_of c.value) (number_set name chosen)) f)
      by_test false f rest =
          ap (λ (b : Bool). number_where (cond b (Some (word_of c.value)) (word_in name (flat_map words_of chosen)))) f
          ∙ rest ∙ sym (ap (λ (b : Bool). cond b (number_of c.value) (number_set name chosen)) f)

  pub choice_is : (default : Bool) → Takes rows name IsChoice → (chosen : List Chosen) → AllByRecursion (IsTaken rows) chosen → choice (choice_at name default (flat_map words_of chosen)) ≡ value_in name (choice default) chosen
  choice_is default takes [] each = refl
  choice_is default takes (c ∷ chosen) each = by_test (bytes_eq c.name name) refl (choice_is default takes chosen each.1)
    where
      by_test : (b : Bool) → bytes_eq c.name name ≡ b → choice (choice_at name default (flat_map words_of chosen)) ≡ value_in name (choice default) chosen → choice (choice_at name default (flat_map words_of (c ∷ chosen))) ≡ value_in name (choice default) (c ∷ chosen)
      by_test true f rest =
          ap (λ (b : Bool). choice (choice_or default (cond b (Some (word_of c.value)) (word_in name (flat_map words_of chosen))))) f
          ∙ set_choice default c.value (taken_as IsChoice takes c each.0 f)
          ∙ sym (ap (λ (b : Bool). cond b c.value (value_in name (choice default) chosen)) f)
      by_test false f rest =
          ap (λ (b : Bool). choice (choice_or default (cond b (Some (word_of c.value)) (word_in name (flat_map words_of chosen))))) f
          ∙ rest ∙ sym (ap (λ (b : Bool). cond b c.value (value_in name (choice default) chosen)) f)

  pub text_is : (default : List ℕ) → Takes rows name IsTextual → (chosen : List Chosen) → AllByRecursion (IsTaken rows) chosen → text (text_at name default (flat_map words_of chosen)) ≡ value_in name (text default) chosen
  text_is default takes [] each = refl
  text_is default takes (c ∷ chosen) each = by_test (bytes_eq c.name name) refl (text_is default takes chosen each.1)
    where
      by_test : (b : Bool) → bytes_eq c.name name ≡ b → text (text_at name default (flat_map words_of chosen)) ≡ value_in name (text default) chosen → text (text_at name default (flat_map words_of (c ∷ chosen))) ≡ value_in name (text default) (c ∷ chosen)
      by_test true f rest =
          ap (λ (b : Bool). text (some_or default (cond b (Some (word_of c.value)) (word_in name (flat_map words_of chosen))))) f
          ∙ set_text c.value (taken_as IsTextual takes c each.0 f)
          ∙ sym (ap (λ (b : Bool). cond b c.value (value_in name (text default) chosen)) f)
      by_test false f rest =
          ap (λ (b : Bool). text (some_or default (cond b (Some (word_of c.value)) (word_in name (flat_map words_of chosen))))) f
          ∙ rest ∙ sym (ap (λ (b : Bool). cond b c.value (value_in name (text default) chosen)) f)
