-- Where a text is refused inside a reference.
use Rattle.std.proofs.Common.{◌≡◌, ℕ, zero, suc, ◌+◌, ◌*◌, ◌<◌, ◌≤◌, ◌⊎◌, Bool, true, false, ◌&&◌, ◌||◌, not, ◌==◌, nat_lt, nat_le, List, [], ◌∷◌, ◌++◌, length, take, drop, get_or, codes, inl, inr, ⊎_elim, true≢false, Option, Some, None, refl, sym, ap, ap₂, subst, ◌∙◌, append_assoc, arith, length-append, eqb-true, ltb-true, lt-ltb}
use Rattle.std.specs.List.{list_all}
use Rattle.std.proofs.lemmas.List.{take-take, take_at, drop_at, take_all, take-append-drop, length-take-le, length-drop}
use Rattle.std.proofs.lemmas.Bool.Decides.{nat_tests}
use Rattle.beep_text.specs.declared.mode.Letters.{Letters}
use Rattle.beep_text.specs.declared.mode.Part.{Part}
use Rattle.beep_text.specs.declared.mode.Taken.{Taken}
use Rattle.beep_text.specs.declared.mode.Mode.{Mode}
use Rattle.beep_chars.specs.Characters.{is_name, is_name_char}
use Rattle.beep_text.specs.Lawful.{has_name}
use Rattle.beep_text.specs.Tree.{Tree}
use Rattle.beep_text.specs.Elements.{Written, plain, named, decimal, hexadecimal, written_text, is_reference, digit_of, IsAlive, IsBody, IsBegun, IsEntity, Stops}
use Rattle.beep_text.specs.Machine.{State, start, step, step_in, run, taken_after, is_fresh, letter_after, is_no_letter, named_taken, base_of, is_digit_in, value_taken, content_taken, section_taken, unended, is_ref, in_ref}
use Rattle.beep_text.proofs.ElementLemmas.{left_of, right_of, both, is_false}
use Rattle.beep_text.proofs.WrittenLemmas.{by_test}
use Rattle.beep_text.proofs.CanonicalLemmas.{name_chars}
use Rattle.beep_text.proofs.CharLemmas.{PartText, letters_text, number_front}
use Rattle.beep_text.proofs.ReachedLemmas.{Inside, IsOpen, ReachedIn}
use Rattle.beep_text.proofs.ReadingLemmas.{named_cases}
use Rattle.beep_text.proofs.RunLemmas.{st, run-append}
use Rattle.beep_text.proofs.StepLemmas.{Stepped, read-reached, run-none}
use Rattle.beep_text.proofs.FinishLemmas.{run-alive, alive-run}
use Rattle.beep_text.proofs.LawLemmas.{prefix_alive}

-- ---- modes in a reference

abbrev pub in_section : Mode → Bool
in_section Mode.Lead = false
in_section Mode.Begun = false
in_section Mode.Naming = false
in_section (Mode.Tag spaced) = false
in_section Mode.Slash = false
in_section Mode.Attr = false
in_section Mode.Equals = false
in_section Mode.Quote = false
in_section (Mode.Value q part) = false
in_section (Mode.Content part) = false
in_section (Mode.Bang n) = false
in_section (Mode.Section k part) = true
in_section (Mode.Closing n) = false
in_section Mode.Closed = false
in_section Mode.Trail = false

-- what holds of the state, if there is one
abbrev OnState : (State → Type 0) → Option State → Type 0
OnState P None = Unit {0}
OnState P (Some s) = P s

-- ---- a reference goes on

abbrev RefTaken : Taken → Type 0
RefTaken (Taken.Whole c) = ⊥
RefTaken (Taken.More part) = is_ref part ≡ true
RefTaken Taken.Dead = Unit {0}

named-ref : (letters : Option Letters) → RefTaken (named_taken letters)
named-ref None = tt
named-ref (Some letters) = refl

ref-taken : (part : Part) (b : ℕ) → is_ref part ≡ true → (b == 59) ≡ false → RefTaken (taken_after part b)
ref-taken Part.Fresh b is other = absurd (cc is)
ref-taken (Part.One v) b is other = absurd (cc is)
ref-taken (Part.Two v) b is other = absurd (cc is)
ref-taken (Part.Three v) b is other = absurd (cc is)
ref-taken (Part.Name letters) b is other =
    rw other (by_test RefTaken (b == 35 && is_no_letter letters) (λ _. refl) (λ _. named-ref (letter_after letters b)))
ref-taken (Part.Number hex any v) b is other =
    rw other (by_test RefTaken (b == 120 && not hex && not any) (λ _. refl) (λ _. by_test RefTaken (is_digit_in hex b) (λ _. by_test RefTaken (nat_le (base_of hex * v + digit_of b) 0x10FFFF) (λ _. refl) (λ _. tt)) (λ _. tt)))

ref_old : (part : Part) → is_ref part ≡ true → is_fresh part ≡ false
ref_old Part.Fresh is = absurd (cc is)
ref_old (Part.One v) is = refl
ref_old (Part.Two v) is = refl
ref_old (Part.Three v) is = refl
ref_old (Part.Name letters) is = refl
ref_old (Part.Number hex any v) is = refl

valued-ref : (s : State) (q : ℕ) (t : Taken) → RefTaken t → OnState (λ x. in_ref x.mode ≡ true) (value_taken s q t)
valued-ref s q (Taken.Whole c) is = absurd is
valued-ref s q (Taken.More part) is = is
valued-ref s q Taken.Dead is = tt

contained-ref : (s : State) (t : Taken) → RefTaken t → OnState (λ x. in_ref x.mode ≡ true) (content_taken s t)
contained-ref s (Taken.Whole c) is = absurd is
contained-ref s (Taken.More part) is = is
contained-ref s Taken.Dead is = tt

-- an octet but `;` leaves a reference open
ref-stays : (mode : Mode) (below : List Tree) (top : Tree) (attr value : List ℕ) (b : ℕ) → in_ref mode ≡ true → (b == 59) ≡ false → OnState (λ x. in_ref x.mode ≡ true) (step_in mode (st below top attr value mode) b)
ref-stays Mode.Lead below top attr value b is other = absurd (cc is)
ref-stays Mode.Begun below top attr value b is other = absurd (cc is)
ref-stays Mode.Naming below top attr value b is other = absurd (cc is)
ref-stays (Mode.Tag spaced) below top attr value b is other = absurd (cc is)
ref-stays Mode.Slash below top attr value b is other = absurd (cc is)
ref-stays Mode.Attr below top attr value b is other = absurd (cc is)
ref-stays Mode.Equals below top attr value b is other = absurd (cc is)
ref-stays Mode.Quote below top attr value b is other = absurd (cc is)
ref-stays (Mode.Value q part) below top attr value b is other = rw (ref_old part is) (valued-ref (st below top attr value (Mode.Value q part)) q (taken_after part b) (ref-taken part b is other))
ref-stays (Mode.Content part) below top attr value b is other = rw (ref_old part is) (contained-ref (st below top attr value (Mode.Content part)) (taken_after part b) (ref-taken part b is other))
ref-stays (Mode.Bang n) below top attr value b is other = absurd (cc is)
ref-stays (Mode.Section k part) below top attr value b is other = absurd (cc is)
ref-stays (Mode.Closing n) below top attr value b is other = absurd (cc is)
ref-stays Mode.Closed below top attr value b is other = absurd (cc is)
ref-stays Mode.Trail below top attr value b is other = absurd (cc is)

-- ---- a section goes on

sectioned-stays : (s : State) (t : Taken) → OnState (λ x. in_section x.mode ≡ true) (section_taken s t)
sectioned-stays s (Taken.Whole c) = refl
sectioned-stays s (Taken.More part) = refl
sectioned-stays s Taken.Dead = tt

not_62 : (x y z : Bool) → y ≡ false → (x && y && z) ≡ false
not_62 true y z is = rw is refl
not_62 false y z is = refl

-- an octet but `>` leaves a section open
section-stays : (mode : Mode) (below : List Tree) (top : Tree) (attr value : List ℕ) (b : ℕ) → in_section mode ≡ true → (b == 62) ≡ false → OnState (λ x. in_section x.mode ≡ true) (step_in mode (st below top attr value mode) b)
section-stays Mode.Lead below top attr value b is other = absurd (cc is)
section-stays Mode.Begun below top attr value b is other = absurd (cc is)
section-stays Mode.Naming below top attr value b is other = absurd (cc is)
section-stays (Mode.Tag spaced) below top attr value b is other = absurd (cc is)
section-stays Mode.Slash below top attr value b is other = absurd (cc is)
section-stays Mode.Attr below top attr value b is other = absurd (cc is)
section-stays Mode.Equals below top attr value b is other = absurd (cc is)
section-stays Mode.Quote below top attr value b is other = absurd (cc is)
section-stays (Mode.Value q part) below top attr value b is other = absurd (cc is)
section-stays (Mode.Content part) below top attr value b is other = absurd (cc is)
section-stays (Mode.Bang n) below top attr value b is other = absurd (cc is)
section-stays (Mode.Section k part) below top attr value b is other =
    let P : Option State → Type 0 = OnState (λ x. in_section x.mode ≡ true) in
    by_test P (is_fresh part && b == 93) (λ _. by_test (λ (x : State). in_section x.mode ≡ true) (nat_lt k 2) (λ _. refl) (λ _. refl))
    (λ _. by_test P (is_fresh part && b == 62 && k == 2) (λ ends. absurd (true≢false (sym ends ∙ not_62 (is_fresh part) (b == 62) (k == 2) other))) (λ _. sectioned-stays (unended (st below top attr value (Mode.Section k part)) k) (taken_after part b)))
section-stays (Mode.Closing n) below top attr value b is other = absurd (cc is)
section-stays Mode.Closed below top attr value b is other = absurd (cc is)
section-stays Mode.Trail below top attr value b is other = absurd (cc is)

-- ---- over octets

OnState-none : (P : State → Type 0) (bs : List ℕ) → OnState P (run None bs)
OnState-none P bs = subst (OnState P) (sym (run-none bs)) tt

run-stays : (P : Mode → Bool) (p : ℕ → Bool) → ((s : State) (b : ℕ) → P s.mode ≡ true → p b ≡ true → OnState (λ x. P x.mode ≡ true) (step s b)) → (bs : List ℕ) (s : State) → P s.mode ≡ true → list_all p bs ≡ true
    → OnState (λ x. P x.mode ≡ true) (run (Some s) bs)
run-stays P p stays [] s is are = is
run-stays P p stays (b ∷ bs) s is are = further (step s b) (stays s b is (left_of (p b) _ are)) (λ x held. run-stays P p stays bs x held (right_of (p b) _ are))
  where
    further : (o : Option State) → OnState (λ x. P x.mode ≡ true) o → ((x : State) → P x.mode ≡ true → OnState (λ y. P y.mode ≡ true) (run (Some x) bs)) → OnState (λ y. P y.mode ≡ true) (run o bs)
    further None held next = OnState-none (λ y. P y.mode ≡ true) bs
    further (Some x) held next = next x held

pub ref-run : (bs : List ℕ) (s : State) → in_ref s.mode ≡ true → list_all (λ b. not (b == 59)) bs ≡ true → OnState (λ x. in_ref x.mode ≡ true) (run (Some s) bs)
ref-run bs s is are = run-stays in_ref (λ b. not (b == 59)) (λ x b held other. ref-stays x.mode x.below x.top x.attr x.value b held (is_false _ other)) bs s is are

pub section-goes : (bs : List ℕ) (s : State) → in_section s.mode ≡ true → list_all (λ b. not (b == 62)) bs ≡ true → OnState (λ x. in_section x.mode ≡ true) (run (Some s) bs)
section-goes bs s is are = run-stays in_section (λ b. not (b == 62)) (λ x b held other. section-stays x.mode x.below x.top x.attr x.value b held (is_false _ other)) bs s is are

-- ---- where `&` may stand

-- the places after a `&`
pub data AmpMode : Mode → Type 0 where
  in_value : (q : ℕ) → AmpMode (Mode.Value q (Part.Name Letters.Empty))
  in_content : AmpMode (Mode.Content (Part.Name Letters.Empty))
  in_cdata : (k : ℕ) → AmpMode (Mode.Section k Part.Fresh)

OnAmp : Option State → Type 0
OnAmp o = OnState (λ x. AmpMode x.mode) o

letter_amp : (letters : Letters) → letter_after letters 38 ≡ None
letter_amp Letters.Empty = refl
letter_amp Letters.A = refl
letter_amp Letters.Am = refl
letter_amp Letters.Amp = refl
letter_amp Letters.Ap = refl
letter_amp Letters.Apo = refl
letter_amp Letters.Apos = refl
letter_amp Letters.G = refl
letter_amp Letters.Gt = refl
letter_amp Letters.L = refl
letter_amp Letters.Lt = refl
letter_amp Letters.Q = refl
letter_amp Letters.Qu = refl
letter_amp Letters.Quo = refl
letter_amp Letters.Quot = refl

name_taken_amp : (letters : Letters) → taken_after (Part.Name letters) 38 ≡ Taken.Dead
name_taken_amp letters = ap named_taken (letter_amp letters)

number_taken_amp : (hex any : Bool) (v : ℕ) → taken_after (Part.Number hex any v) 38 ≡ Taken.Dead
number_taken_amp true any v = refl
number_taken_amp false any v = refl

value_amp : (q : ℕ) (part : Part) (below : List Tree) (top : Tree) (attr value : List ℕ) → (q == 34 || q == 39) ≡ true → OnAmp (step_in (Mode.Value q part) (st below top attr value (Mode.Value q part)) 38)
unfolding OnAmp
value_amp q Part.Fresh below top attr value is = rw (amp_apart q is) (in_value q)
  where
    amp_apart : (q : ℕ) → (q == 34 || q == 39) ≡ true → (38 == q) ≡ false
    amp_apart q is = grind (arith, nat_tests)
value_amp q (Part.One v) below top attr value is = tt
value_amp q (Part.Two v) below top attr value is = tt
value_amp q (Part.Three v) below top attr value is = tt
value_amp q (Part.Name letters) below top attr value is = subst (λ (t : Taken). OnState (λ x. AmpMode x.mode) (value_taken (st below top attr value (Mode.Value q (Part.Name letters))) q t)) (sym (name_taken_amp letters)) tt
value_amp q (Part.Number hex any v) below top attr value is = subst (λ (t : Taken). OnState (λ x. AmpMode x.mode) (value_taken (st below top attr value (Mode.Value q (Part.Number hex any v))) q t)) (sym (number_taken_amp hex any v)) tt

content_amp : (part : Part) (below : List Tree) (top : Tree) (attr value : List ℕ) → OnAmp (step_in (Mode.Content part) (st below top attr value (Mode.Content part)) 38)
unfolding OnAmp
content_amp Part.Fresh below top attr value = in_content
content_amp (Part.One v) below top attr value = tt
content_amp (Part.Two v) below top attr value = tt
content_amp (Part.Three v) below top attr value = tt
content_amp (Part.Name letters) below top attr value = subst (λ (t : Taken). OnState (λ x. AmpMode x.mode) (content_taken (st below top attr value (Mode.Content (Part.Name letters))) t)) (sym (name_taken_amp letters)) tt
content_amp (Part.Number hex any v) below top attr value = subst (λ (t : Taken). OnState (λ x. AmpMode x.mode) (content_taken (st below top attr value (Mode.Content (Part.Number hex any v))) t)) (sym (number_taken_amp hex any v)) tt

section_amp : (k : ℕ) (part : Part) (below : List Tree) (top : Tree) (attr value : List ℕ) → OnAmp (step_in (Mode.Section k part) (st below top attr value (Mode.Section k part)) 38)
unfolding OnAmp
section_amp k Part.Fresh below top attr value = in_cdata 0
section_amp k (Part.One v) below top attr value = tt
section_amp k (Part.Two v) below top attr value = tt
section_amp k (Part.Three v) below top attr value = tt
section_amp k (Part.Name letters) below top attr value = subst (λ (t : Taken). OnState (λ x. AmpMode x.mode) (section_taken (unended (st below top attr value (Mode.Section k (Part.Name letters))) k) t)) (sym (name_taken_amp letters)) tt
section_amp k (Part.Number hex any v) below top attr value = subst (λ (t : Taken). OnState (λ x. AmpMode x.mode) (section_taken (unended (st below top attr value (Mode.Section k (Part.Number hex any v))) k) t)) (sym (number_taken_amp hex any v)) tt

tag_amp : (spaced : Bool) (below : List Tree) (top : Tree) (attr value : List ℕ) → OnAmp (step_in (Mode.Tag spaced) (st below top attr value (Mode.Tag spaced)) 38)
unfolding OnAmp
tag_amp true below top attr value = tt
tag_amp false below top attr value = tt

begun_amp : (below : List Tree) (top : Tree) (attr value : List ℕ) → OnAmp (step_in Mode.Begun (st below top attr value Mode.Begun) 38)
unfolding OnAmp
begun_amp [] top attr value = tt
begun_amp (up ∷ below) top attr value = tt

attr_amp : (below : List Tree) (top : Tree) (attr value : List ℕ) → OnAmp (step_in Mode.Attr (st below top attr value Mode.Attr) 38)
unfolding OnAmp
attr_amp below top attr value = by_test (OnState (λ x. AmpMode x.mode)) (has_name attr top.attrs) (λ _. tt) (λ _. tt)

bang_amp : (n : ℕ) → n < 7 → (below : List Tree) (top : Tree) (attr value : List ℕ) → OnAmp (step_in (Mode.Bang n) (st below top attr value (Mode.Bang n)) 38)
unfolding OnAmp
bang_amp zero small below top attr value = tt
bang_amp (suc zero) small below top attr value = tt
bang_amp (suc (suc zero)) small below top attr value = tt
bang_amp (suc (suc (suc zero))) small below top attr value = tt
bang_amp (suc (suc (suc (suc zero)))) small below top attr value = tt
bang_amp (suc (suc (suc (suc (suc zero))))) small below top attr value = tt
bang_amp (suc (suc (suc (suc (suc (suc zero)))))) small below top attr value = tt
bang_amp (suc (suc (suc (suc (suc (suc (suc n))))))) small below top attr value = absurd (omega arith)

all_at : (p : ℕ → Bool) (xs : List ℕ) (i : ℕ) → list_all p xs ≡ true → i < length xs → p (get_or xs i 0) ≡ true
all_at p [] i are within = absurd (omega arith)
all_at p (x ∷ xs) zero are within = left_of (p x) _ are
all_at p (x ∷ xs) (suc i) are within = all_at p xs i (right_of (p x) _ are) (omega arith)

named_top : (below : List Tree) (top : Tree) (t : List ℕ) → IsOpen below → Inside below top t → is_name top.name ≡ true
named_top [] top t opened is = absurd (cc opened)
named_top (up ∷ below) top t opened is = ap (λ (x : Tree). is_name x.name) is.8 ∙ is.4.name

closing_amp : (n : ℕ) (below : List Tree) (top : Tree) (attr value t : List ℕ) → IsOpen below → Inside below top t → OnAmp (step_in (Mode.Closing n) (st below top attr value (Mode.Closing n)) 38)
unfolding OnAmp
closing_amp n below top attr value t opened is =
    let P : Option State → Type 0 = OnState (λ x. AmpMode x.mode) in
    by_test P (nat_lt n (length top.name))
    (λ within. by_test P (38 == get_or top.name n 0)
    (λ same. absurd (true≢false (sym (all_at is_name_char top.name n (name_chars top.name (named_top below top t opened is)) (ltb-true n (length top.name) within)) ∙ ap is_name_char (sym (eqb-true 38 (get_or top.name n 0) same))))) (λ _. tt))
    (λ _. tt)

-- after a `&` a text stands in one of these places
amp-step : (mode : Mode) (below : List Tree) (top : Tree) (attr value t : List ℕ) → ReachedIn mode below top attr value t → OnAmp (step_in mode (st below top attr value mode) 38)
unfolding OnAmp
amp-step Mode.Lead below top attr value t is = tt
amp-step Mode.Begun below top attr value t is = begun_amp below top attr value
amp-step Mode.Naming below top attr value t is = tt
amp-step (Mode.Tag spaced) below top attr value t is = tag_amp spaced below top attr value
amp-step Mode.Slash below top attr value t is = tt
amp-step Mode.Attr below top attr value t is = attr_amp below top attr value
amp-step Mode.Equals below top attr value t is = tt
amp-step Mode.Quote below top attr value t is = tt
amp-step (Mode.Value q part) below top attr value t is = value_amp q part below top attr value is.2.is_quote
amp-step (Mode.Content part) below top attr value t is = content_amp part below top attr value
amp-step (Mode.Bang n) below top attr value t is = bang_amp n is.3 below top attr value
amp-step (Mode.Section k part) below top attr value t is = section_amp k part below top attr value
amp-step (Mode.Closing n) below top attr value t is = closing_amp n below top attr value is.0 is.1 is.2
amp-step Mode.Closed below top attr value t is = tt
amp-step Mode.Trail below top attr value t is = tt

-- after `&` a blank can't follow in a reference, and can in a section
amp_case : (mode : Mode) (below : List Tree) (top : Tree) (attr value : List ℕ) → AmpMode mode
    → ((in_ref mode ≡ true) × (step_in mode (st below top attr value mode) 32 ≡ None)) ⊎ ((in_section mode ≡ true) × ((s : State) × (step_in mode (st below top attr value mode) 32 ≡ Some s)))
amp_case _ below top attr value (in_value q) = inl (refl, refl)
amp_case _ below top attr value in_content = inl (refl, refl)
amp_case _ below top attr value (in_cdata k) = inr (refl, (_, refl))

-- ---- the octets of a reference

without : ℕ → List ℕ → Type 0
without x bs = list_all (λ b. not (b == x)) bs ≡ true

pub record RefText (o : List ℕ) : Type 0 where
  pub rest : List ℕ
  pub text : o ≡ 38 ∷ rest
  pub no_end : list_all (λ b. not (b == 59)) rest ≡ true
  pub no_gt : list_all (λ b. not (b == 62)) rest ≡ true
  pub no_amp : list_all (λ b. not (b == 38)) rest ≡ true
  pub begun : IsBegun o

letters_begun : (letters : Letters) → RefText (38 ∷ letters_text letters)
letters_begun Letters.Empty = record { rest = []; text = refl; no_end = refl; no_gt = refl; no_amp = refl; begun = record { whole = named 60; reference = refl; next = 108; others = codes "t;"; text = refl } }
letters_begun Letters.A = record { rest = codes "a"; text = refl; no_end = refl; no_gt = refl; no_amp = refl; begun = record { whole = named 38; reference = refl; next = 109; others = codes "p;"; text = refl } }
letters_begun Letters.Am = record { rest = codes "am"; text = refl; no_end = refl; no_gt = refl; no_amp = refl; begun = record { whole = named 38; reference = refl; next = 112; others = codes ";"; text = refl } }
letters_begun Letters.Amp = record { rest = codes "amp"; text = refl; no_end = refl; no_gt = refl; no_amp = refl; begun = record { whole = named 38; reference = refl; next = 59; others = []; text = refl } }
letters_begun Letters.Ap = record { rest = codes "ap"; text = refl; no_end = refl; no_gt = refl; no_amp = refl; begun = record { whole = named 39; reference = refl; next = 111; others = codes "s;"; text = refl } }
letters_begun Letters.Apo = record { rest = codes "apo"; text = refl; no_end = refl; no_gt = refl; no_amp = refl; begun = record { whole = named 39; reference = refl; next = 115; others = codes ";"; text = refl } }
letters_begun Letters.Apos = record { rest = codes "apos"; text = refl; no_end = refl; no_gt = refl; no_amp = refl; begun = record { whole = named 39; reference = refl; next = 59; others = []; text = refl } }
letters_begun Letters.G = record { rest = codes "g"; text = refl; no_end = refl; no_gt = refl; no_amp = refl; begun = record { whole = named 62; reference = refl; next = 116; others = codes ";"; text = refl } }
letters_begun Letters.Gt = record { rest = codes "gt"; text = refl; no_end = refl; no_gt = refl; no_amp = refl; begun = record { whole = named 62; reference = refl; next = 59; others = []; text = refl } }
letters_begun Letters.L = record { rest = codes "l"; text = refl; no_end = refl; no_gt = refl; no_amp = refl; begun = record { whole = named 60; reference = refl; next = 116; others = codes ";"; text = refl } }
letters_begun Letters.Lt = record { rest = codes "lt"; text = refl; no_end = refl; no_gt = refl; no_amp = refl; begun = record { whole = named 60; reference = refl; next = 59; others = []; text = refl } }
letters_begun Letters.Q = record { rest = codes "q"; text = refl; no_end = refl; no_gt = refl; no_amp = refl; begun = record { whole = named 34; reference = refl; next = 117; others = codes "ot;"; text = refl } }
letters_begun Letters.Qu = record { rest = codes "qu"; text = refl; no_end = refl; no_gt = refl; no_amp = refl; begun = record { whole = named 34; reference = refl; next = 111; others = codes "t;"; text = refl } }
letters_begun Letters.Quo = record { rest = codes "quo"; text = refl; no_end = refl; no_gt = refl; no_amp = refl; begun = record { whole = named 34; reference = refl; next = 116; others = codes ";"; text = refl } }
letters_begun Letters.Quot = record { rest = codes "quot"; text = refl; no_end = refl; no_gt = refl; no_amp = refl; begun = record { whole = named 34; reference = refl; next = 59; others = []; text = refl } }

digit_other : (hex : Bool) (d : ℕ) → is_digit_in hex d ≡ true → (not (d == 59) ≡ true) × (not (d == 62) ≡ true) × (not (d == 38) ≡ true)
digit_other true d is = (grind (arith, nat_tests), grind (arith, nat_tests), grind (arith, nat_tests))
digit_other false d is = (grind (arith, nat_tests), grind (arith, nat_tests), grind (arith, nat_tests))

digits_other : (hex : Bool) (p : ℕ → Bool) → ((d : ℕ) → is_digit_in hex d ≡ true → p d ≡ true) → (ds : List ℕ) → list_all (is_digit_in hex) ds ≡ true → list_all p ds ≡ true
digits_other hex p each [] are = refl
digits_other hex p each (d ∷ ds) are = both _ _ (each d (left_of (is_digit_in hex d) _ are)) (digits_other hex p each ds (right_of (is_digit_in hex d) _ are))

number_begun : (hex : Bool) (digits : List ℕ) → list_all (is_digit_in hex) digits ≡ true → IsBegun (number_front hex ++ digits)
number_begun true [] are = record { whole = hexadecimal (codes "0"); reference = refl; next = 48; others = codes ";"; text = refl }
number_begun true (d ∷ ds) are = record { whole = hexadecimal (d ∷ ds); reference = both _ _ are (lt-ltb 0 (length (d ∷ ds)) (omega arith)); next = 59; others = []; text = refl }
number_begun false [] are = record { whole = decimal (codes "0"); reference = refl; next = 48; others = codes ";"; text = refl }
number_begun false (d ∷ ds) are = record { whole = decimal (d ∷ ds); reference = both _ _ are (lt-ltb 0 (length (d ∷ ds)) (omega arith)); next = 59; others = []; text = refl }

number_text : (hex : Bool) (digits o : List ℕ) → list_all (is_digit_in hex) digits ≡ true → o ≡ number_front hex ++ digits → RefText o
number_text true digits o are is = record {
  rest = 35 ∷ 120 ∷ digits;
  text = is;
  begun = subst IsBegun (sym is) (number_begun true digits are);
  no_end = digits_other true _ (λ d h. (digit_other true d h).0) digits are;
  no_gt = digits_other true _ (λ d h. (digit_other true d h).1) digits are;
  no_amp = digits_other true _ (λ d h. (digit_other true d h).2) digits are;
}
number_text false digits o are is = record {
  rest = 35 ∷ digits;
  text = is;
  begun = subst IsBegun (sym is) (number_begun false digits are);
  no_end = digits_other false _ (λ d h. (digit_other false d h).0) digits are;
  no_gt = digits_other false _ (λ d h. (digit_other false d h).1) digits are;
  no_amp = digits_other false _ (λ d h. (digit_other false d h).2) digits are;
}

ref_text : (part : Part) (o : List ℕ) → PartText part o → is_ref part ≡ true → RefText o
ref_text Part.Fresh o is ref = absurd (cc ref)
ref_text (Part.One v) o is ref = absurd (cc ref)
ref_text (Part.Two v) o is ref = absurd (cc ref)
ref_text (Part.Three v) o is ref = absurd (cc ref)
ref_text (Part.Name letters) o is ref = subst RefText (sym is) (letters_begun letters)
ref_text (Part.Number hex any v) o is ref = number_text hex is.digits o is.are is.text

-- a text in a reference, parted at its `&`
abbrev pub InRef : List ℕ → Type 0
InRef t = (front o : List ℕ) × RefText o × (t ≡ front ++ o)

pub in_ref_text : (mode : Mode) (below : List Tree) (top : Tree) (attr value t : List ℕ) → ReachedIn mode below top attr value t → in_ref mode ≡ true → InRef t
in_ref_text Mode.Lead below top attr value t is ref = absurd (cc ref)
in_ref_text Mode.Begun below top attr value t is ref = absurd (cc ref)
in_ref_text Mode.Naming below top attr value t is ref = absurd (cc ref)
in_ref_text (Mode.Tag spaced) below top attr value t is ref = absurd (cc ref)
in_ref_text Mode.Slash below top attr value t is ref = absurd (cc ref)
in_ref_text Mode.Attr below top attr value t is ref = absurd (cc ref)
in_ref_text Mode.Equals below top attr value t is ref = absurd (cc ref)
in_ref_text Mode.Quote below top attr value t is ref = absurd (cc ref)
in_ref_text (Mode.Value q part) below top attr value t is ref = (is.0, is.1, ref_text part is.1 is.3 ref, is.4)
in_ref_text (Mode.Content part) below top attr value t is ref = (is.1.0, is.1.1, ref_text part is.1.1 is.1.3 ref, is.1.4)
in_ref_text (Mode.Bang n) below top attr value t is ref = absurd (cc ref)
in_ref_text (Mode.Section k part) below top attr value t is ref = absurd (cc ref)
in_ref_text (Mode.Closing n) below top attr value t is ref = absurd (cc ref)
in_ref_text Mode.Closed below top attr value t is ref = absurd (cc ref)
in_ref_text Mode.Trail below top attr value t is ref = absurd (cc ref)

not_both : (mode : Mode) → in_ref mode ≡ true → in_section mode ≡ true → ⊥
not_both Mode.Lead ref other = absurd (cc ref)
not_both Mode.Begun ref other = absurd (cc ref)
not_both Mode.Naming ref other = absurd (cc ref)
not_both (Mode.Tag spaced) ref other = absurd (cc ref)
not_both Mode.Slash ref other = absurd (cc ref)
not_both Mode.Attr ref other = absurd (cc ref)
not_both Mode.Equals ref other = absurd (cc ref)
not_both Mode.Quote ref other = absurd (cc ref)
not_both (Mode.Value q part) ref other = absurd (cc other)
not_both (Mode.Content part) ref other = absurd (cc other)
not_both (Mode.Bang n) ref other = absurd (cc ref)
not_both (Mode.Section k part) ref other = absurd (cc ref)
not_both (Mode.Closing n) ref other = absurd (cc ref)
not_both Mode.Closed ref other = absurd (cc ref)
not_both Mode.Trail ref other = absurd (cc ref)

-- ---- the state after a `&`

some_none : (s : State) → Some s ≡ None → ⊥
some_none s same = absurd (cc same)

-- the machine read front and `&`, and then what follows
pub record AtAmp (front rest : List ℕ) (s : State) : Type 0 where
  pub later : State
  pub goes : run (Some start) (front ++ 38 ∷ []) ≡ Some later
  pub amp : AmpMode later.mode
  pub then_goes : run (Some later) rest ≡ Some s

at_amp : (front rest : List ℕ) (s : State) → run (Some start) (front ++ 38 ∷ rest) ≡ Some s → AtAmp front rest s
unfolding OnAmp
at_amp front rest s goes = by_front (run (Some start) front) refl
  where
    parted : run (run (Some start) front) (38 ∷ rest) ≡ Some s
    parted = sym (run-append (Some start) front (38 ∷ rest)) ∙ goes

    by_step : (s0 : State) → run (Some start) front ≡ Some s0 → (o : Option State) → step s0 38 ≡ o → OnState (λ x. AmpMode x.mode) o → AtAmp front rest s
    by_step s0 is None stuck amp = absurd (some_none s (sym parted ∙ ap (λ x. run x (38 ∷ rest)) is ∙ ap (λ x. run x rest) stuck ∙ run-none rest))
    by_step s0 is (Some s1) next amp = record {
      later = s1;
      goes = run-append (Some start) front (38 ∷ []) ∙ ap (λ x. run x (38 ∷ [])) is ∙ next;
      amp = amp;
      then_goes = ap (λ x. run x rest) (sym next) ∙ ap (λ x. run x (38 ∷ rest)) (sym is) ∙ parted;
    }

    by_front : (o : Option State) → run (Some start) front ≡ o → AtAmp front rest s
    by_front None none = absurd (some_none s (sym parted ∙ ap (λ x. run x (38 ∷ rest)) none ∙ run-none (38 ∷ rest)))
    by_front (Some s0) is = by_step s0 is (step s0 38) refl (amp-step s0.mode s0.below s0.top s0.attr s0.value front (subst (Stepped front) is (read-reached front)))

on_some : (P : State → Type 0) (o : Option State) (s : State) → o ≡ Some s → OnState P o → P s
on_some P o s is held = subst (OnState P) is held

blank-none : (front : List ℕ) (s1 : State) → run (Some start) (front ++ 38 ∷ []) ≡ Some s1 → (o : Option State) → step s1 32 ≡ o → run (Some start) (front ++ 38 ∷ 32 ∷ []) ≡ o
blank-none front s1 goes o next =
    ap (run (Some start)) (sym (append_assoc front (38 ∷ []) (32 ∷ []))) ∙ run-append (Some start) (front ++ 38 ∷ []) (32 ∷ []) ∙ ap (λ x. run x (32 ∷ [])) goes ∙ next

-- in a reference a blank can't follow its `&`
pub blank-dead : (front rest : List ℕ) (s : State) → run (Some start) (front ++ 38 ∷ rest) ≡ Some s → in_ref s.mode ≡ true → list_all (λ b. not (b == 62)) rest ≡ true → IsAlive (front ++ 38 ∷ 32 ∷ []) → ⊥
blank-dead front rest s goes ref no_gt alive =
    let a = at_amp front rest s goes in
    let s1 = a.later in
    ⊎_elim (λ r. alive-run (front ++ 38 ∷ 32 ∷ []) (blank-none front s1 a.goes None r.1) alive)
    (λ x. not_both s.mode ref (on_some (λ y. in_section y.mode ≡ true) (run (Some s1) rest) s a.then_goes (section-goes rest s1 x.0 no_gt)))
    (amp_case s1.mode s1.below s1.top s1.attr s1.value a.amp)

-- where a blank can't follow the `&`, what follows it stays in a reference up to a `;`
pub amp-ref : (front rest : List ℕ) (s : State) → run (Some start) (front ++ 38 ∷ rest) ≡ Some s → length front + 2 ≤ 65536 → list_all (λ b. not (b == 59)) rest ≡ true → ¬ (IsAlive (front ++ 38 ∷ 32 ∷ [])) → in_ref s.mode ≡ true
amp-ref front rest s goes small no_end only =
    let a = at_amp front rest s goes in
    let s1 = a.later in
    ⊎_elim (λ r. on_some (λ y. in_ref y.mode ≡ true) (run (Some s1) rest) s a.then_goes (ref-run rest s1 r.0 no_end))
    (λ x. absurd (only (run-alive (front ++ 38 ∷ 32 ∷ []) x.1.0 (omega (arith, length-append front (38 ∷ 32 ∷ []))) (blank-none front s1 a.goes (Some x.1.0) x.1.1))))
    (amp_case s1.mode s1.below s1.top s1.attr s1.value a.amp)

-- ---- the place of a reference

-- a text in a reference is one place in a body
pub entity_place : (body front o : List ℕ) (q : ℕ) (s : State) → q < length body → length body ≤ 65536 → run (Some start) (take q body) ≡ Some s → in_ref s.mode ≡ true → RefText o → take q body ≡ front ++ o
    → IsEntity body q (length front)
entity_place body front o q s within small goes ref is text =
    let whole : take q body ≡ front ++ 38 ∷ is.rest = text ∙ ap (λ x. front ++ x) is.text in
    let long : length front < q = omega (arith, ap length whole, length-append front (38 ∷ is.rest), length-take-le q body (omega arith)) in
    let before : take (length front) body ≡ front = sym (take-take (length front) q body (omega (arith, long))) ∙ ap (take (length front)) text ∙ take_at front o (length front) refl in
    let read : run (Some start) (front ++ 38 ∷ is.rest) ≡ Some s = ap (run (Some start)) (sym whole) ∙ goes in
    record {
      octet = within;
      before = long;
      place = subst (λ (x : List ℕ). IsAlive (x ++ 38 ∷ [])) (sym before) (prefix_alive (front ++ 38 ∷ []) is.rest (subst IsAlive (whole ∙ sym (append_assoc front (38 ∷ []) is.rest)) (run-alive (take q body) s (omega (arith, length-take-le q body (omega arith))) goes)));
      only = λ alive. blank-dead front is.rest s read ref is.no_gt (subst (λ (x : List ℕ). IsAlive (x ++ 38 ∷ 32 ∷ [])) before alive);
      begun = subst IsBegun (sym (ap (drop (length front)) text ∙ drop_at front o (length front) refl)) is.begun;
    }

-- a proper prefix of a reference is `&` and octets but `;`
prefix_without : (xs o others : List ℕ) (next x : ℕ) → list_all (λ b. not (b == 59)) xs ≡ true → xs ++ x ∷ [] ≡ o ++ next ∷ others → list_all (λ b. not (b == 59)) o ≡ true
prefix_without xs [] others next x are same = refl
prefix_without [] (c ∷ o) others next x are same = absurd (omega (arith, ap length same, length-append o (next ∷ others)))
prefix_without (y ∷ xs) (c ∷ o) others next x are same =
    both _ _ (ap (λ b. not (b == 59)) (sym (head_same y c (xs ++ x ∷ []) (o ++ next ∷ others) same)) ∙ left_of (not (y == 59)) _ are) (prefix_without xs o others next x (right_of (not (y == 59)) _ are) (tail_same y c (xs ++ x ∷ []) (o ++ next ∷ others) same))
  where
    head_same : (a b : ℕ) (xs ys : List ℕ) → a ∷ xs ≡ b ∷ ys → a ≡ b
    head_same a b xs ys same = cc

    tail_same : (a b : ℕ) (xs ys : List ℕ) → a ∷ xs ≡ b ∷ ys → xs ≡ ys
    tail_same a b xs ys same = cc

-- the octets of a reference but its last
pub record RefFront (w : Written) : Type 0 where
  pub front : List ℕ
  pub text : written_text w ≡ 38 ∷ front ++ 59 ∷ []
  pub others : list_all (λ b. not (b == 59)) front ≡ true

ref_front : (w : Written) → is_reference w ≡ true → RefFront w
ref_front (plain c) is = absurd (cc is)
ref_front (named c) is = named_cases c is (λ x. RefFront (named x)) (record { front = codes "lt"; text = refl; others = refl }) (record { front = codes "gt"; text = refl; others = refl })
    (record { front = codes "amp"; text = refl; others = refl }) (record { front = codes "apos"; text = refl; others = refl }) (record { front = codes "quot"; text = refl; others = refl })
ref_front (decimal digits) is = record { front = 35 ∷ digits; text = refl; others = digits_other false _ (λ d h. (digit_other false d h).0) digits (left_of _ (nat_lt 0 (length digits)) is) }
ref_front (hexadecimal digits) is = record { front = 35 ∷ 120 ∷ digits; text = refl; others = digits_other true _ (λ d h. (digit_other true d h).0) digits (left_of _ (nat_lt 0 (length digits)) is) }

begun_rest : (o : List ℕ) → 0 < length o → IsBegun o → (rest : List ℕ) × (o ≡ 38 ∷ rest) × (list_all (λ b. not (b == 59)) rest ≡ true)
begun_rest [] some is = absurd (omega arith)
begun_rest (c ∷ o) some is =
    let f = ref_front is.whole is.reference in
    let same : 38 ∷ (f.front ++ 59 ∷ []) ≡ c ∷ (o ++ is.next ∷ is.others) = sym f.text ∙ is.text in
    (o, ap (λ x. x ∷ o) (sym (head_same 38 c (f.front ++ 59 ∷ []) (o ++ is.next ∷ is.others) same)), prefix_without f.front o is.others is.next 59 f.others (tail_same 38 c (f.front ++ 59 ∷ []) (o ++ is.next ∷ is.others) same))
  where
    head_same : (a b : ℕ) (xs ys : List ℕ) → a ∷ xs ≡ b ∷ ys → a ≡ b
    head_same a b xs ys same = cc

    tail_same : (a b : ℕ) (xs ys : List ℕ) → a ∷ xs ≡ b ∷ ys → xs ≡ ys
    tail_same a b xs ys same = cc

-- where the machine isn't in a reference, no place is one
pub no_entity : (body : List ℕ) (q p : ℕ) (s : State) → length body ≤ 65536 → run (Some start) (take q body) ≡ Some s → in_ref s.mode ≡ false → IsEntity body q p → ⊥
no_entity body q p s small goes other is =
    let within = is.octet in
    let less = is.before in
    let len = length-take-le q body (omega arith) in
    let len2 = length-take-le p body (omega arith) in
    let r = begun_rest (drop p (take q body)) (omega (arith, length-drop p (take q body), len)) is.begun in
    let whole : take q body ≡ take p body ++ 38 ∷ r.0 = sym (take-append-drop p (take q body)) ∙ ap₂ (λ x y. x ++ y) (take-take p q body (omega arith)) r.1 in
    true≢false (sym (amp-ref (take p body) r.0 s (ap (run (Some start)) (sym whole) ∙ goes) (omega (arith, len2)) r.2 is.only) ∙ other)

-- ---- the place of a refusal

pub stops_at : (body : List ℕ) (q : ℕ) (s : State) → length body ≤ 65536 → (within : q < length body) → run (Some start) (take q body) ≡ Some s → run (Some start) (take (suc q) body) ≡ None → Stops body q
stops_at body q s small within goes dead = record {
  within = omega arith;
  alive = run-alive (take q body) s (omega (arith, length-take-le q body (omega arith))) goes;
  dead = λ _ alive. alive-run (take (suc q) body) dead alive;
  short = λ same. absurd (omega (arith, same));
}

pub stops_short : (body : List ℕ) (s : State) → length body ≤ 65536 → run (Some start) body ≡ Some s → ((e : Tree) → ¬ (IsBody body e)) → Stops body (length body)
stops_short body s small goes none = record {
  within = omega arith;
  alive = subst IsAlive (sym (take_all (length body) body (omega arith))) (run-alive body s small goes);
  dead = λ less. absurd (omega (arith, less));
  short = λ _ e. none e;
}
