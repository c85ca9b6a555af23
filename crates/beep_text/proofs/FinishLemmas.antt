-- Each state that a text leads to can be finished: some octets make the text a body.
use Rattle.std.proofs.Common.{◌≡◌, ℕ, zero, suc, ◌+◌, ◌*◌, ◌<◌, ◌≤◌, ◌⊎◌, Bool, true, false, ◌||◌, ◌==◌, nat_lt, nat_le, List, [], ◌∷◌, ◌++◌, length, map, flat_map, take, drop, replicate, fold, codes, inl, inr, ⊎_elim, true≢false, Option, Some, None, refl, sym, ap, subst, ◌∙◌, arith, length-append, eqb-true, leb-true, lt-ltb, ltb-true, ltb-false, length-take-le}
use Rattle.std.proofs.lemmas.List.{take-append-drop}
use Rattle.std.proofs.lemmas.Bool.{eqb-false}
use Rattle.std.proofs.lemmas.Bool.Decides.{nat_tests}
use Rattle.beep_text.specs.declared.attr.Attr.{Attr}
use Rattle.beep_text.specs.declared.mode.Letters.{Letters}
use Rattle.beep_text.specs.declared.mode.Part.{Part}
use Rattle.beep_text.specs.declared.mode.Taken.{Taken}
use Rattle.beep_text.specs.declared.mode.Mode.{Mode}
use Rattle.beep_chars.specs.Characters.{is_allowed}
use Rattle.beep_text.specs.Tree.{Items, Tree, nothing, with_child}
use Rattle.beep_text.specs.Elements.{written_text, AttrText, attr_text, attr_said, IsAlive, IsBody, number_of, put}
use Rattle.beep_text.specs.Machine.{State, start, run, taken_after, char_taken, is_fresh, has_room, ended_in, grown, base_of, is_digit_in, is_ref}
use Rattle.beep_text.proofs.ElementLemmas.{right_of, both}
use Rattle.beep_text.proofs.CharLemmas.{PartText, IsOne, IsTwo, IsThree, IsNumber}
use Rattle.beep_text.proofs.ReadingLemmas.{Reading, last, more, reads_one, reads_two, reads_three, reads_digits, first_high}
use Rattle.beep_text.proofs.ReachedLemmas.{Opening, Naming, IsAttrName, IsOpen, InSection, ReachedIn, Reached}
use Rattle.beep_text.proofs.RoomLemmas.{names_len, longer}
use Rattle.beep_text.proofs.RunLemmas.{st, tree, Goes, value-char, content-char, section-char, attr-more, IsTagMode, tag-closes, closing-run, end-gap, end-run, run-append, unquote-run, body-run}
use Rattle.beep_text.proofs.StepLemmas.{Stepped, read-reached, run-none}

-- ---- a character

abbrev pub Readable : (Part → ℕ → Taken) → Part → Type 0
Readable f part = (bs : List ℕ) × (c : ℕ) × Reading f part bs c

one_allowed : (v : ℕ) → 2 ≤ v → v < 17408 → (v < 864) ⊎ (896 ≤ v) → is_allowed (grown v 128) ≡ true
one_allowed v low high scalar = ⊎_elim (λ a. grind (arith, nat_tests)) (λ b. grind (arith, nat_tests)) scalar

module _ (f : Part → ℕ → Taken) (first : (b : ℕ) → 128 ≤ b → f Part.Fresh b ≡ taken_after Part.Fresh b)
    (one : (v b : ℕ) → f (Part.One v) b ≡ taken_after (Part.One v) b) (two : (v b : ℕ) → f (Part.Two v) b ≡ taken_after (Part.Two v) b) (three : (v b : ℕ) → f (Part.Three v) b ≡ taken_after (Part.Three v) b) where
  pub finish_one : (v : ℕ) (o : List ℕ) → IsOne v o → Readable f (Part.One v)
  finish_one v o is = (128 ∷ [], grown v 128, reads_one f first one two three v 128 (grown v 128) refl refl (one_allowed v is.low is.high is.scalar))

  pub finish_two : (v : ℕ) (o : List ℕ) → IsTwo v o → Readable f (Part.Two v)
  finish_two v o is =
      let high = is.high in
      elim (v == 0) as (λ b. (v == 0) ≡ b → Readable f (Part.Two v)) [
        | true ↦ λ e. (let zero_is = eqb-true v 0 e in (160 ∷ 128 ∷ [], 2048, reads_two f first one two three v 160 128 32 2048 refl refl (omega (arith, zero_is)) (omega arith) (omega arith) (inl (omega arith)) refl refl))
        | false ↦ λ e. (let some = eqb-false v 0 e in (
          128 ∷ 128 ∷ [],
          grown (grown v 128) 128,
          reads_two f first one two three v 128 128 (grown v 128) (grown (grown v 128) 128) refl refl refl (positive v some) (omega arith) (apart v) refl
              (one_allowed (grown v 128) (at_least v some) (omega arith) (apart v)),
        ))
      ] refl
    where
      positive : (v : ℕ) → (v ≡ 0 → ⊥) → 32 ≤ grown v 128
      positive zero some = absurd (some refl)
      positive (suc v) some = omega arith

      at_least : (v : ℕ) → (v ≡ 0 → ⊥) → 2 ≤ grown v 128
      at_least zero some = absurd (some refl)
      at_least (suc v) some = omega arith

      apart : (v : ℕ) → (grown v 128 < 864) ⊎ (896 ≤ grown v 128)
      apart v = elim (nat_lt v 14) as (λ b. nat_lt v 14 ≡ b → (grown v 128 < 864) ⊎ (896 ≤ grown v 128)) [
        | true ↦ λ e. inl (let low = ltb-true v 14 e in omega arith)
        | false ↦ λ e. inr (let low = ltb-false v 14 e in omega arith)
      ] refl

  pub finish_three : (v : ℕ) (o : List ℕ) → IsThree v o → Readable f (Part.Three v)
  finish_three v o is =
      let high = is.high in
      elim (v == 0) as (λ b. (v == 0) ≡ b → Readable f (Part.Three v)) [
        | true ↦ λ e. (let zero_is = eqb-true v 0 e in (144 ∷ 128 ∷ 128 ∷ [], 65536, reads_three f first one two three v 144 128 128 16 1024 65536 refl refl refl (omega (arith, zero_is)) (omega arith) (omega arith) refl (omega arith) (omega arith) (inr (omega arith)) refl refl))
        | false ↦ λ e. (let some = eqb-false v 0 e in (
          128 ∷ 128 ∷ 128 ∷ [],
          grown (grown (grown v 128) 128) 128,
          reads_three f first one two three v 128 128 128 (grown v 128) (grown (grown v 128) 128) (grown (grown (grown v 128) 128) 128) refl refl refl refl (large v some) (omega arith) refl
              (larger v some) (omega arith) (inr (largest v some)) refl (one_allowed (grown (grown v 128) 128) (at_least v some) (omega arith) (inr (largest v some))),
        ))
      ] refl
    where
      large : (v : ℕ) → (v ≡ 0 → ⊥) → 16 ≤ grown v 128
      large zero some = absurd (some refl)
      large (suc v) some = omega arith

      larger : (v : ℕ) → (v ≡ 0 → ⊥) → 32 ≤ grown (grown v 128) 128
      larger zero some = absurd (some refl)
      larger (suc v) some = omega arith

      largest : (v : ℕ) → (v ≡ 0 → ⊥) → 896 ≤ grown (grown v 128) 128
      largest zero some = absurd (some refl)
      largest (suc v) some = omega arith

      at_least : (v : ℕ) → (v ≡ 0 → ⊥) → 2 ≤ grown (grown v 128) 128
      at_least zero some = absurd (some refl)
      at_least (suc v) some = omega arith

finish_letters : (letters : Letters) → Readable char_taken (Part.Name letters)
finish_letters Letters.Empty = (codes "lt;", 60, more 108 60 _ (Part.Name Letters.L) refl refl (more 116 60 _ (Part.Name Letters.Lt) refl refl (last 59 60 refl)))
finish_letters Letters.A = (codes "mp;", 38, more 109 38 _ (Part.Name Letters.Am) refl refl (more 112 38 _ (Part.Name Letters.Amp) refl refl (last 59 38 refl)))
finish_letters Letters.Am = (codes "p;", 38, more 112 38 _ (Part.Name Letters.Amp) refl refl (last 59 38 refl))
finish_letters Letters.Amp = (codes ";", 38, last 59 38 refl)
finish_letters Letters.Ap = (codes "os;", 39, more 111 39 _ (Part.Name Letters.Apo) refl refl (more 115 39 _ (Part.Name Letters.Apos) refl refl (last 59 39 refl)))
finish_letters Letters.Apo = (codes "s;", 39, more 115 39 _ (Part.Name Letters.Apos) refl refl (last 59 39 refl))
finish_letters Letters.Apos = (codes ";", 39, last 59 39 refl)
finish_letters Letters.G = (codes "t;", 62, more 116 62 _ (Part.Name Letters.Gt) refl refl (last 59 62 refl))
finish_letters Letters.Gt = (codes ";", 62, last 59 62 refl)
finish_letters Letters.L = (codes "t;", 60, more 116 60 _ (Part.Name Letters.Lt) refl refl (last 59 60 refl))
finish_letters Letters.Lt = (codes ";", 60, last 59 60 refl)
finish_letters Letters.Q = (codes "uot;", 34, more 117 34 _ (Part.Name Letters.Qu) refl refl (more 111 34 _ (Part.Name Letters.Quo) refl refl (more 116 34 _ (Part.Name Letters.Quot) refl refl (last 59 34 refl))))
finish_letters Letters.Qu = (codes "ot;", 34, more 111 34 _ (Part.Name Letters.Quo) refl refl (more 116 34 _ (Part.Name Letters.Quot) refl refl (last 59 34 refl)))
finish_letters Letters.Quo = (codes "t;", 34, more 116 34 _ (Part.Name Letters.Quot) refl refl (last 59 34 refl))
finish_letters Letters.Quot = (codes ";", 34, last 59 34 refl)

-- ---- numbers

allowed_low : (n : ℕ) → 32 ≤ n → n ≤ 0xD7FF → is_allowed n ≡ true
allowed_low n low high = grind (arith, nat_tests)

allowed_top : (n : ℕ) → 0x10000 ≤ n → n ≤ 0x10FFFF → is_allowed n ≡ true
allowed_top n low high = grind (arith, nat_tests)

not_allowed : (v : ℕ) → 32 ≤ v → v ≤ 0x10FFFF → is_allowed v ≡ false → (0xD800 ≤ v) × (v ≤ 0xFFFF)
not_allowed v low high is = (grind (arith, nat_tests), grind (arith, nat_tests))

times_low : (hex : Bool) (v : ℕ) → 1 ≤ v → v < 32 → is_allowed (base_of hex * (base_of hex * v + 0) + 0) ≡ true
times_low true v low high = allowed_low (16 * (16 * v + 0) + 0) (omega arith) (omega arith)
times_low false v low high = allowed_low (10 * (10 * v + 0) + 0) (omega arith) (omega arith)

times_high : (hex : Bool) (v : ℕ) → 0xD800 ≤ v → v ≤ 0xFFFF → is_allowed (base_of hex * v + 0) ≡ true
times_high true v low high = allowed_top (16 * v + 0) (omega arith) (omega arith)
times_high false v low high = allowed_top (10 * v + 0) (omega arith) (omega arith)

nine : (hex : Bool) → is_allowed (base_of hex * 0 + 9) ≡ true
nine true = refl
nine false = refl

zero_digit : (hex : Bool) → is_digit_in hex 48 ≡ true
zero_digit true = refl
zero_digit false = refl

nine_digit : (hex : Bool) → is_digit_in hex 57 ≡ true
nine_digit true = refl
nine_digit false = refl

or_true : (x : Bool) → (x || true) ≡ true
or_true true = refl
or_true false = refl

-- a number above 0 has digits
some_digits : (hex any : Bool) (v : ℕ) (o : List ℕ) → IsNumber hex any v o → 32 ≤ v → (any || false) ≡ true
some_digits hex any v o is low = by_digits is.digits is.some is.value
  where
    by_digits : (digits : List ℕ) → any ≡ nat_lt 0 (length digits) → v ≡ number_of (base_of hex) digits → (any || false) ≡ true
    by_digits [] some value = absurd (omega (arith, value))
    by_digits (d ∷ digits) some value = ap (λ x. x || false) (some ∙ lt-ltb 0 (length (d ∷ digits)) (omega arith))

finish_number : (hex any : Bool) (v : ℕ) (o : List ℕ) → IsNumber hex any v o → Readable char_taken (Part.Number hex any v)
finish_number hex any v o is =
    elim (v == 0) as (λ b. (v == 0) ≡ b → Readable char_taken (Part.Number hex any v)) [
      | true ↦ λ e. (57 ∷ 59 ∷ [], base_of hex * v + 9, reads_digits hex any v (57 ∷ []) (base_of hex * v + 9) (both _ _ (nine_digit hex) refl) (or_true any) refl (ap (λ x. is_allowed (base_of hex * x + 9)) (eqb-true v 0 e) ∙ nine hex))
      | false ↦ λ e. (let some = positive v (eqb-false v 0 e) in elim (nat_lt v 32) as (λ b. nat_lt v 32 ≡ b → Readable char_taken (Part.Number hex any v)) [
        | true ↦ λ low. (
          48 ∷ 48 ∷ 59 ∷ [],
          base_of hex * (base_of hex * v + 0) + 0,
          reads_digits hex any v (48 ∷ 48 ∷ []) _ (both _ _ (zero_digit hex) (both _ _ (zero_digit hex) refl)) (or_true any) refl (times_low hex v some (ltb-true v 32 low)),
        )
        | false ↦ λ high. (let large = ltb-false v 32 high in elim (is_allowed v) as (λ b. is_allowed v ≡ b → Readable char_taken (Part.Number hex any v)) [
          | true ↦ λ allowed. (59 ∷ [], v, reads_digits hex any v [] v refl (some_digits hex any v o is large) refl allowed)
          | false ↦ λ other. (let range = not_allowed v large is.small other in
              (48 ∷ 59 ∷ [], base_of hex * v + 0, reads_digits hex any v (48 ∷ []) _ (both _ _ (zero_digit hex) refl) (or_true any) refl (times_high hex v range.0 range.1)))
        ] refl)
      ] refl)
    ] refl
  where
    positive : (v : ℕ) → (v ≡ 0 → ⊥) → 1 ≤ v
    positive zero some = absurd (some refl)
    positive (suc v) some = omega arith

-- a part of a character can be finished, by octets that stand in a value or in what an element holds
pub finish_part : (part : Part) (o : List ℕ) → PartText part o → is_fresh part ≡ false → Readable char_taken part
finish_part Part.Fresh o is other = absurd (cc other)
finish_part (Part.One v) o is other = finish_one char_taken first_high (λ v b. refl) (λ v b. refl) (λ v b. refl) v o is
finish_part (Part.Two v) o is other = finish_two char_taken first_high (λ v b. refl) (λ v b. refl) (λ v b. refl) v o is
finish_part (Part.Three v) o is other = finish_three char_taken first_high (λ v b. refl) (λ v b. refl) (λ v b. refl) v o is
finish_part (Part.Name letters) o is other = finish_letters letters
finish_part (Part.Number hex any v) o is other = finish_number hex any v o is

-- the same in a section
finish_plain : (part : Part) (o : List ℕ) → PartText part o → is_ref part ≡ false → is_fresh part ≡ false → Readable taken_after part
finish_plain Part.Fresh o is plain_is other = absurd (cc other)
finish_plain (Part.One v) o is plain_is other = finish_one taken_after (λ b high. refl) (λ v b. refl) (λ v b. refl) (λ v b. refl) v o is
finish_plain (Part.Two v) o is plain_is other = finish_two taken_after (λ b high. refl) (λ v b. refl) (λ v b. refl) (λ v b. refl) v o is
finish_plain (Part.Three v) o is plain_is other = finish_three taken_after (λ b high. refl) (λ v b. refl) (λ v b. refl) (λ v b. refl) v o is
finish_plain (Part.Name letters) o is plain_is other = absurd (cc plain_is)
finish_plain (Part.Number hex any v) o is plain_is other = absurd (cc plain_is)

-- ---- the places

-- some octets bring the machine to the end of a body
abbrev pub Finishes : Option State → Type 0
Finishes o = (more : List ℕ) × (x : State) × (run o more ≡ Some x) × (x.mode ≡ Mode.Trail)

then_finishes : (o o' : Option State) (first : List ℕ) → run o first ≡ o' → Finishes o' → Finishes o
then_finishes o o' first goes rest = (first ++ rest.0, rest.1, run-append o first rest.0 ∙ ap (λ x. run x rest.0) goes ∙ rest.2, rest.3)

-- an element ends, and each open one round it is ended
finish_ended : (below : List Tree) (up top : Tree) (attr value : List ℕ) → Finishes (ended_in (up ∷ below) top attr value)
finish_ended [] up top attr value = ([], _, refl, refl)
finish_ended (up2 ∷ below) up top attr value =
    then_finishes (ended_in (up ∷ up2 ∷ below) top attr value) (ended_in (up2 ∷ below) (tree up.name up.attrs (with_child up.items top.name top.attrs top.items)) attr value) (60 ∷ 47 ∷ up.name ++ [] ++ 62 ∷ [])
    (end-run below up2 (tree up.name up.attrs (with_child up.items top.name top.attrs top.items)) attr value [] refl)
    (finish_ended below up2 (tree up.name up.attrs (with_child up.items top.name top.attrs top.items)) attr value)

finish_open : (below : List Tree) (up top : Tree) (attr value : List ℕ) → Finishes (Some (st (up ∷ below) top attr value (Mode.Content Part.Fresh)))
finish_open below up top attr value =
    then_finishes _ (ended_in (up ∷ below) top attr value) (60 ∷ 47 ∷ top.name ++ [] ++ 62 ∷ []) (end-run below up top attr value [] refl) (finish_ended below up top attr value)

finish_content : (below : List Tree) (top : Tree) (attr value : List ℕ) → IsOpen below → Finishes (Some (st below top attr value (Mode.Content Part.Fresh)))
finish_content [] top attr value opened = absurd (cc opened)
finish_content (up ∷ below) top attr value opened = finish_open below up top attr value

finish_tag : (below : List Tree) (top : Tree) (attr value gap t : List ℕ) (mode : Mode) → Opening below top gap t → IsTagMode mode → Finishes (Some (st below top attr value mode))
finish_tag [] top attr value gap t mode is tag = absurd is
finish_tag (up ∷ below) top attr value gap t mode is tag =
    then_finishes (Some (st (up ∷ below) top attr value mode)) (ended_in (up ∷ below) top attr value) (47 ∷ 62 ∷ []) (tag-closes below up top attr value mode tag) (finish_ended below up top attr value)

finish_naming : (below : List Tree) (top : Tree) (attr value t : List ℕ) → Naming below top t → Finishes (Some (st below top attr value Mode.Naming))
finish_naming [] top attr value t is = absurd is
finish_naming (up ∷ below) top attr value t is =
    then_finishes (Some (st (up ∷ below) top attr value Mode.Naming)) (ended_in (up ∷ below) top attr value) (47 ∷ 62 ∷ []) (tag-closes below up top attr value Mode.Naming (inl refl)) (finish_ended below up top attr value)

finish_slash : (below : List Tree) (top : Tree) (attr value gap t : List ℕ) → Opening below top gap t → Finishes (Some (st below top attr value Mode.Slash))
finish_slash [] top attr value gap t is = absurd is
finish_slash (up ∷ below) top attr value gap t is = then_finishes _ (ended_in (up ∷ below) top attr value) (62 ∷ []) refl (finish_ended below up top attr value)

-- after the value of an attribute; the elements are open as before it
finish_value : (below : List Tree) (name : List ℕ) (attrs : List Attr) (items : Items) (attr value gap t : List ℕ) (q : ℕ) → Opening below (tree name attrs items) gap t → Finishes (Some (st below (tree name attrs items) attr value (Mode.Value q Part.Fresh)))
finish_value [] name attrs items attr value gap t q is = absurd is
finish_value (up ∷ below) name attrs items attr value gap t q is =
    let top = tree name (attrs ++ record { name = attr; value = value } ∷ []) items in
    then_finishes (Some (st (up ∷ below) (tree name attrs items) attr value (Mode.Value q Part.Fresh))) (ended_in (up ∷ below) top [] []) (q ∷ 47 ∷ 62 ∷ [])
    (ap (λ o. run o (47 ∷ 62 ∷ [])) (unquote-run (up ∷ below) name attrs items attr value q) ∙ tag-closes below up top [] [] (Mode.Tag false) (inr (false, refl)))
    (finish_ended below up top [] [])

finish_quote : (below : List Tree) (top : Tree) (attr value gap t : List ℕ) → Opening below top gap t → Finishes (Some (st below top attr value Mode.Quote))
finish_quote below top attr value gap t is = then_finishes _ (Some (st below top attr [] (Mode.Value 39 Part.Fresh))) (39 ∷ []) refl (finish_value below top.name top.attrs top.items attr [] gap t 39 is)

finish_equals : (below : List Tree) (top : Tree) (attr value gap t : List ℕ) → Opening below top gap t → Finishes (Some (st below top attr value Mode.Equals))
finish_equals below top attr value gap t is = then_finishes _ (Some (st below top attr value Mode.Quote)) (61 ∷ []) refl (finish_quote below top attr value gap t is)

-- the names in a start tag are in the text
names_text : (attrs : List AttrText) → names_len (map attr_said attrs) ≤ length (flat_map attr_text attrs)
names_text [] = omega arith
names_text (a ∷ attrs) =
    omega (
      arith,
      names_text attrs,
      length-append (attr_text a) (flat_map attr_text attrs),
      length-append (a.gap ++ a.name ++ a.before ++ 61 ∷ a.after ++ a.quote ∷ flat_map written_text a.value) (a.quote ∷ []),
      length-append (a.gap ++ a.name ++ a.before ++ 61 ∷ a.after) (a.quote ∷ flat_map written_text a.value),
      length-append (a.gap ++ a.name ++ a.before) (61 ∷ a.after),
      length-append (a.gap ++ a.name) a.before,
      length-append a.gap a.name,
    )

names_opening : (below : List Tree) (top : Tree) (gap t : List ℕ) → Opening below top gap t → names_len top.attrs ≤ length t
names_opening [] top gap t is = absurd is
names_opening (up ∷ below) top gap t is =
    omega (arith, ap names_len is.settings, names_text is.attrs, ap length is.text, length-append is.before (60 ∷ top.name ++ flat_map attr_text is.attrs ++ gap), length-append (60 ∷ top.name ++ flat_map attr_text is.attrs) gap, length-append (60 ∷ top.name) (flat_map attr_text is.attrs))

finish_attr : (below : List Tree) (top : Tree) (attr value t : List ℕ) → IsAttrName below top attr t → has_room attr top.attrs ≡ true → length t ≤ 65536 → Finishes (Some (st below top attr value Mode.Attr))
finish_attr below top attr value t is room small =
    let fits = leb-true _ _ (right_of _ (nat_le (length attr) 64) is.named) in
    let known = names_opening below top is.gap is.front is.opening in
    let new = longer attr top.attrs fits (omega (arith, known, ap length is.text, length-append is.front attr)) room in
    then_finishes (Some (st below top attr value Mode.Attr)) (Some (st below top (attr ++ new.0) value Mode.Attr)) new.0 (attr-more new.0 below top attr value new.2 new.1 new.3)
    (then_finishes _ (Some (st below top (attr ++ new.0) value Mode.Quote)) (61 ∷ []) (rw new.3 refl) (finish_quote below top (attr ++ new.0) value is.gap is.front is.opening))

finish_closed : (below : List Tree) (top : Tree) (attr value : List ℕ) → IsOpen below → Finishes (Some (st below top attr value Mode.Closed))
finish_closed [] top attr value opened = absurd (cc opened)
finish_closed (up ∷ below) top attr value opened = then_finishes _ (ended_in (up ∷ below) top attr value) (62 ∷ []) refl (finish_ended below up top attr value)

finish_closing : (below : List Tree) (top : Tree) (attr value : List ℕ) (n : ℕ) → IsOpen below → n ≤ length top.name → Finishes (Some (st below top attr value (Mode.Closing n)))
finish_closing [] top attr value n opened within = absurd (cc opened)
finish_closing (up ∷ below) top attr value n opened within =
    let front = length-take-le n top.name within in
    then_finishes (Some (st (up ∷ below) top attr value (Mode.Closing n))) (Some (st (up ∷ below) top attr value (Mode.Closing (length top.name)))) (drop n top.name)
    (subst (λ k. Goes (st (up ∷ below) top attr value (Mode.Closing k)) (drop n top.name) (st (up ∷ below) top attr value (Mode.Closing (length top.name)))) front (closing-run (drop n top.name) (take n top.name) (up ∷ below) top attr value (sym (take-append-drop n top.name))))
    (then_finishes (Some (st (up ∷ below) top attr value (Mode.Closing (length top.name)))) (ended_in (up ∷ below) top attr value) (62 ∷ []) (end-gap (up ∷ below) top attr value [] refl) (finish_ended below up top attr value))

-- a section ends
section_ends : (k : ℕ) (below : List Tree) (name : List ℕ) (attrs : List Attr) (items : Items) (attr value : List ℕ) → k ≤ 2
    → run (Some (st below (tree name attrs items) attr value (Mode.Section k Part.Fresh))) (codes "]]>") ≡ Some (st below (tree name attrs (fold put items (replicate k 93 ++ []))) attr value (Mode.Content Part.Fresh))
section_ends zero below name attrs items attr value few = refl
section_ends (suc zero) below name attrs items attr value few = refl
section_ends (suc (suc zero)) below name attrs items attr value few = refl
section_ends (suc (suc (suc k))) below name attrs items attr value few = absurd (omega arith)

finish_section : (k : ℕ) (below : List Tree) (top : Tree) (attr value : List ℕ) → k ≤ 2 → IsOpen below → Finishes (Some (st below top attr value (Mode.Section k Part.Fresh)))
finish_section k below top attr value few opened =
    then_finishes (Some (st below top attr value (Mode.Section k Part.Fresh))) _ (codes "]]>") (section_ends k below top.name top.attrs top.items attr value few)
    (finish_content below (tree top.name top.attrs (fold put top.items (replicate k 93 ++ []))) attr value opened)

by_fresh : (part : Part) (P : Type 0) → (is_fresh part ≡ true → P) → (is_fresh part ≡ false → P) → P
by_fresh part P fresh other = elim (is_fresh part) as (λ b. is_fresh part ≡ b → P) [ true ↦ fresh | false ↦ other ] refl

fresh_is : (part : Part) → is_fresh part ≡ true → part ≡ Part.Fresh
fresh_is Part.Fresh is = refl
fresh_is (Part.One v) is = absurd (cc is)
fresh_is (Part.Two v) is = absurd (cc is)
fresh_is (Part.Three v) is = absurd (cc is)
fresh_is (Part.Name letters) is = absurd (cc is)
fresh_is (Part.Number hex any v) is = absurd (cc is)

finish_in_value : (q : ℕ) (part : Part) (below : List Tree) (top : Tree) (attr value o : List ℕ) → PartText part o → (gap t : List ℕ) → Opening below top gap t → Finishes (Some (st below top attr value (Mode.Value q part)))
finish_in_value q part below top attr value o is gap t opening = by_fresh part _
    (λ fresh. subst (λ (p : Part). Finishes (Some (st below top attr value (Mode.Value q p)))) (sym (fresh_is part fresh)) (finish_value below top.name top.attrs top.items attr value gap t q opening))
    (λ other. let r = finish_part part o is other in
    then_finishes (Some (st below top attr value (Mode.Value q part))) _ r.0 (value-char q below top attr value part r.0 r.1 r.2 (λ f. absurd (true≢false (sym f ∙ other))))
    (finish_value below top.name top.attrs top.items attr (value ++ r.1 ∷ []) gap t q opening))

finish_in_content : (part : Part) (below : List Tree) (top : Tree) (attr value o : List ℕ) → PartText part o → IsOpen below → Finishes (Some (st below top attr value (Mode.Content part)))
finish_in_content part below top attr value o is opened = by_fresh part _
    (λ fresh. subst (λ (p : Part). Finishes (Some (st below top attr value (Mode.Content p)))) (sym (fresh_is part fresh)) (finish_content below top attr value opened))
    (λ other. let r = finish_part part o is other in
    then_finishes (Some (st below top attr value (Mode.Content part))) _ r.0 (content-char below top.name top.attrs top.items attr value part r.0 r.1 r.2 (λ f. absurd (true≢false (sym f ∙ other))))
    (finish_content below (tree top.name top.attrs (put top.items r.1)) attr value opened))

finish_in_section : (k : ℕ) (part : Part) (below : List Tree) (top : Tree) (attr value o t : List ℕ) → PartText part o → is_ref part ≡ false → InSection below top k (is_fresh part) t → Finishes (Some (st below top attr value (Mode.Section k part)))
finish_in_section k part below top attr value o t is plain_is held = by_fresh part _
    (λ fresh. subst (λ (p : Part). Finishes (Some (st below top attr value (Mode.Section k p)))) (sym (fresh_is part fresh)) (finish_section k below top attr value held.few held.opened))
    (λ other. let r = finish_plain part o is plain_is other in
    then_finishes (Some (st below top attr value (Mode.Section k part))) _ r.0
    (section-char k below top.name top.attrs top.items attr value part r.0 r.1 r.2 (λ f. absurd (true≢false (sym f ∙ other))) (λ f _. absurd (true≢false (sym f ∙ other))) (λ f. held.part f))
    (finish_section 0 below (tree top.name top.attrs (put (fold put top.items (replicate k 93)) r.1)) attr value (omega arith) held.opened))

bang_goes : (n : ℕ) → n < 7 → (below : List Tree) (top : Tree) (attr value : List ℕ) → run (Some (st below top attr value (Mode.Bang n))) (drop n (codes "[CDATA[")) ≡ Some (st below top attr value (Mode.Section 0 Part.Fresh))
bang_goes zero small below top attr value = refl
bang_goes (suc zero) small below top attr value = refl
bang_goes (suc (suc zero)) small below top attr value = refl
bang_goes (suc (suc (suc zero))) small below top attr value = refl
bang_goes (suc (suc (suc (suc zero)))) small below top attr value = refl
bang_goes (suc (suc (suc (suc (suc zero))))) small below top attr value = refl
bang_goes (suc (suc (suc (suc (suc (suc zero)))))) small below top attr value = refl
bang_goes (suc (suc (suc (suc (suc (suc (suc n))))))) small below top attr value = absurd (omega arith)

finish_begun : (below : List Tree) (top : Tree) (attr value : List ℕ) → Finishes (Some (st below top attr value Mode.Begun))
finish_begun [] top attr value = then_finishes _ (ended_in (top ∷ []) (tree (97 ∷ []) [] nothing) attr value) (97 ∷ 47 ∷ 62 ∷ []) refl (finish_ended [] top (tree (97 ∷ []) [] nothing) attr value)
finish_begun (up ∷ below) top attr value = then_finishes _ (Some (st (up ∷ below) top attr value (Mode.Closing 0))) (47 ∷ []) refl (finish_closing (up ∷ below) top attr value 0 refl (omega arith))

-- each state that a text leads to can be finished
finish : (mode : Mode) (below : List Tree) (top : Tree) (attr value t : List ℕ) → ReachedIn mode below top attr value t → length t ≤ 65536 → Finishes (Some (st below top attr value mode))
finish Mode.Lead below top attr value t is small = then_finishes _ (Some (st below top attr value Mode.Begun)) (60 ∷ []) refl (finish_begun below top attr value)
finish Mode.Begun below top attr value t is small = finish_begun below top attr value
finish Mode.Naming below top attr value t is small = finish_naming below top attr value t is
finish (Mode.Tag spaced) below top attr value t is small = finish_tag below top attr value is.0 t (Mode.Tag spaced) is.1 (inr (spaced, refl))
finish Mode.Slash below top attr value t is small = finish_slash below top attr value is.1 is.0 is.2
finish Mode.Attr below top attr value t is small = finish_attr below top attr value t is.0 is.1 small
finish Mode.Equals below top attr value t is small = finish_equals below top attr value is.name.gap is.name.front is.name.opening
finish Mode.Quote below top attr value t is small = finish_quote below top attr value is.equals.name.gap is.equals.name.front is.equals.name.opening
finish (Mode.Value q part) below top attr value t is small = finish_in_value q part below top attr value is.1 is.3 is.2.quoted.equals.name.gap is.2.quoted.equals.name.front is.2.quoted.equals.name.opening
finish (Mode.Content part) below top attr value t is small = finish_in_content part below top attr value is.1.1 is.1.3 is.0
finish (Mode.Bang n) below top attr value t is small =
    then_finishes (Some (st below top attr value (Mode.Bang n))) (Some (st below top attr value (Mode.Section 0 Part.Fresh))) (drop n (codes "[CDATA[")) (bang_goes n is.3 below top attr value) (finish_section 0 below top attr value (omega arith) is.1)
finish (Mode.Section k part) below top attr value t is small = finish_in_section k part below top attr value is.0.1 is.0.0 is.0.3 is.1 is.0.2
finish (Mode.Closing n) below top attr value t is small = finish_closing below top attr value n is.1 is.3
finish Mode.Closed below top attr value t is small = finish_closed below top attr value is.2
finish Mode.Trail below top attr value t is small = ([], _, refl, refl)

-- ---- alive

trail_body : (s : State) (t : List ℕ) → s.mode ≡ Mode.Trail → Reached s t → (e : Tree) × IsBody t e
trail_body s t trail is =
    let r = subst (λ (m : Mode). ReachedIn m s.below s.top s.attr s.value t) trail is in
    (r.0, r.2)

of_run : (t : List ℕ) (o : Option State) (s : State) → o ≡ Some s → Stepped t o → Reached s t
of_run t o s is stepped = subst (Stepped t) is stepped

-- a text that the machine reads can go on to a body
pub run-alive : (t : List ℕ) (s : State) → length t ≤ 65536 → run (Some start) t ≡ Some s → IsAlive t
run-alive t s small goes =
    let is = of_run t (run (Some start) t) s goes (read-reached t) in
    let end = finish s.mode s.below s.top s.attr s.value t is small in
    let whole : run (Some start) (t ++ end.0) ≡ Some end.1 = run-append (Some start) t end.0 ∙ ap (λ o. run o end.0) goes ∙ end.2 in
    let body = trail_body end.1 (t ++ end.0) end.3 (of_run (t ++ end.0) (run (Some start) (t ++ end.0)) end.1 whole (read-reached (t ++ end.0))) in
    (end.0, body.0, body.1)

-- a text that can go on to a body is read
pub alive-run : (t : List ℕ) → run (Some start) t ≡ None → IsAlive t → ⊥
alive-run t none alive =
    let goes = body-run (t ++ alive.0) alive.1 alive.2 in
    let stuck : run (Some start) (t ++ alive.0) ≡ None = run-append (Some start) t alive.0 ∙ ap (λ o. run o alive.0) none ∙ run-none alive.0 in
    some≢none _ (sym goes.2 ∙ stuck)
  where
    some≢none : (s : State) → Some s ≡ None → ⊥
    some≢none s same = absurd (cc same)
