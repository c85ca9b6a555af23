-- What the reader's loop gives for a whole body.
use Rattle.std.proofs.Common.{◌≡◌, ℕ, suc, ◌+◌, ◌<◌, ◌≤◌, Bool, true, false, not, ◌==◌, if◌then◌else◌, List, [], ◌∷◌, ◌++◌, length, take, get_or, Option, Some, None, refl, sym, ap, subst, ◌∙◌, arith}
use Rattle.std.specs.List.{list_all}
use Rattle.std.proofs.lemmas.List.{take_more}
use Rattle.beep_text.specs.declared.limits.TheConstants.{MAX_TEXT, MAX_NESTED}
use Rattle.beep_text.specs.declared.mode.Mode.{Mode}
use Rattle.beep_text.specs.declared.read.TextError.{TextError}
use Rattle.beep_text.specs.Tree.{Items, Tree}
use Rattle.beep_text.specs.Lawful.{are_attrs, are_items, depth_of, IsElement}
use Rattle.beep_text.specs.Elements.{IsBody, IsEntity}
use Rattle.beep_text.specs.Refused.{Refuses}
use Rattle.beep_text.specs.Machine.{State, start, step, run, in_ref, child_of, element_of, is_trail}
use Rattle.beep_text.specs.Reading.{MayEnd, last_amp, last_amp_from, refusal_of}
use Rattle.beep_text.proofs.ElementLemmas.{left_of, right_of, is_false}
use Rattle.beep_text.proofs.LawLemmas.{attrs_lawful, pieces_items}
use Rattle.beep_text.proofs.PlaceLemmas.{in_ref_text, entity_place, no_entity, stops_at, stops_short}
use Rattle.beep_text.proofs.ReachedLemmas.{Inside, IsOpen, Opening, ReachedIn, Reached}
use Rattle.beep_text.proofs.WrittenLemmas.{by_test}
use Rattle.beep_text.proofs.RunLemmas.{body-run, run-append}
use Rattle.beep_text.proofs.StepLemmas.{Stepped, read-reached}

-- ---- an element that may end is lawful

opening_lawful : (below : List Tree) (top : Tree) (gap t : List ℕ) → Opening below top gap t → IsElement top
opening_lawful [] top gap t is = absurd is
opening_lawful (up ∷ below) top gap t is = record {
  named = is.named;
  attrs = ap are_attrs is.settings ∙ attrs_lawful is.attrs [] refl is.are;
  items = ap are_items is.items;
  nested = subst (λ (x : Items). depth_of x < MAX_NESTED) (sym is.items) (omega arith);
}

inside_lawful : (below : List Tree) (top : Tree) (t : List ℕ) → IsOpen below → Inside below top t → IsElement top
inside_lawful [] top t opened is = absurd (cc opened)
inside_lawful (up ∷ below) top t opened is =
    let held = pieces_items (suc (length below)) is.2 is.6 in
    let deep = is.5 in
    let known = held.1 (omega arith) in
    subst IsElement (sym is.8) (record { named = is.4.name; attrs = attrs_lawful is.1.attrs [] refl is.4.attrs; items = held.0; nested = omega (arith, known) })

may_end_in : (mode : Mode) (below : List Tree) (top : Tree) (attr value t : List ℕ) → ReachedIn mode below top attr value t → MayEnd mode top
may_end_in Mode.Lead below top attr value t is = tt
may_end_in Mode.Begun below top attr value t is = tt
may_end_in Mode.Naming below top attr value t is = tt
may_end_in (Mode.Tag spaced) below top attr value t is = tt
may_end_in Mode.Slash below top attr value t is = opening_lawful below top is.1 is.0 is.2
may_end_in Mode.Attr below top attr value t is = tt
may_end_in Mode.Equals below top attr value t is = tt
may_end_in Mode.Quote below top attr value t is = tt
may_end_in (Mode.Value q part) below top attr value t is = tt
may_end_in (Mode.Content part) below top attr value t is = tt
may_end_in (Mode.Bang n) below top attr value t is = tt
may_end_in (Mode.Section k part) below top attr value t is = tt
may_end_in (Mode.Closing n) below top attr value t is = inside_lawful below top is.0 is.1 is.2
may_end_in Mode.Closed below top attr value t is = inside_lawful below top is.0 is.2 is.3
may_end_in Mode.Trail below top attr value t is = tt

reached_of : (t : List ℕ) (s : State) → run (Some start) t ≡ Some s → Reached s t
reached_of t s goes = subst (Stepped t) goes (read-reached t)

pub may_end : (t : List ℕ) (s : State) → run (Some start) t ≡ Some s → MayEnd s.mode s.top
may_end t s goes = may_end_in s.mode s.below s.top s.attr s.value t (reached_of t s goes)

-- ---- the last `&`

none_further : (rest : List ℕ) (at count : ℕ) → list_all (λ b. not (b == 38)) rest ≡ true → last_amp_from at count rest ≡ at
none_further [] at count are = refl
none_further (b ∷ rest) at count are =
    ap (λ x. last_amp_from (if x then count else at) (suc count) rest) (is_false (b == 38) (left_of (not (b == 38)) _ are)) ∙ none_further rest at (suc count) (right_of (not (b == 38)) _ are)

amp_at : (front rest : List ℕ) (at count : ℕ) → list_all (λ b. not (b == 38)) rest ≡ true → last_amp_from at count (front ++ 38 ∷ rest) ≡ count + length front
amp_at [] rest at count are = none_further rest count (suc count) are ∙ omega arith
amp_at (c ∷ front) rest at count are = amp_at front rest (if c == 38 then count else at) (suc count) are ∙ omega arith

-- ---- one octet more

pub read_more : (body : List ℕ) (i b : ℕ) (s : State) (o : Option State) → i < length body → run (Some start) (take i body) ≡ Some s → b ≡ get_or body i 0 → step s b ≡ o → run (Some start) (take (i + 1) body) ≡ o
read_more body i b s o within goes same next =
    ap (run (Some start)) (take_more body i 0 within ∙ ap (λ x. take i body ++ x ∷ []) (sym same)) ∙ run-append (Some start) (take i body) (b ∷ []) ∙ ap (λ x. run x (b ∷ [])) goes ∙ next

-- where no step is, the body is refused
pub refused_at : (body : List ℕ) (i b : ℕ) (s : State) → i < length body → length body ≤ MAX_TEXT → run (Some start) (take i body) ≡ Some s → b ≡ get_or body i 0 → step s b ≡ None
    → Refuses body (refusal_of s.mode i (last_amp (take i body)))
refused_at body i b s within small goes same none =
    let next : i + 1 ≡ suc i = omega arith in
    let dead = ap (λ n. run (Some start) (take n body)) (sym next) ∙ read_more body i b s None within goes same none in
    let stops = stops_at body i s small within goes dead in
    by_test (Refuses body) (in_ref s.mode)
    (λ ref. let held = in_ref_text s.mode s.below s.top s.attr s.value (take i body) (reached_of (take i body) s goes) ref in
    let place : last_amp (take i body) ≡ length held.0 = ap last_amp (held.3 ∙ ap (λ x. held.0 ++ x) held.2.text) ∙ amp_at held.0 held.2.rest 0 0 held.2.no_amp ∙ omega arith in
    (small, (i, stops, subst (IsEntity body i) (sym place) (entity_place body held.0 held.1 i s within small goes ref held.2 held.3))))
    (λ other. (small, stops, λ p is. no_entity body i p s small goes other is))

-- ---- the end of the body

trail_is : (mode : Mode) → is_trail mode ≡ true → mode ≡ Mode.Trail
trail_is Mode.Lead is = absurd (cc is)
trail_is Mode.Begun is = absurd (cc is)
trail_is Mode.Naming is = absurd (cc is)
trail_is (Mode.Tag spaced) is = absurd (cc is)
trail_is Mode.Slash is = absurd (cc is)
trail_is Mode.Attr is = absurd (cc is)
trail_is Mode.Equals is = absurd (cc is)
trail_is Mode.Quote is = absurd (cc is)
trail_is (Mode.Value q part) is = absurd (cc is)
trail_is (Mode.Content part) is = absurd (cc is)
trail_is (Mode.Bang n) is = absurd (cc is)
trail_is (Mode.Section k part) is = absurd (cc is)
trail_is (Mode.Closing n) is = absurd (cc is)
trail_is Mode.Closed is = absurd (cc is)
trail_is Mode.Trail is = refl

some_same : (e f : Tree) → Some e ≡ Some f → e ≡ f
some_same e f same = cc

pub read_value : (body : List ℕ) (s : State) (e : Tree) → run (Some start) body ≡ Some s → Some e ≡ element_of s.mode s.top.items → IsBody body e
read_value body s e goes is = by_trail (is_trail s.mode) refl is
  where
    by_trail : (x : Bool) → is_trail s.mode ≡ x → Some e ≡ (if x then child_of s.top.items else None) → IsBody body e
    by_trail false no_trail found = absurd (cc found)
    by_trail true trail found =
        let r = subst (λ (m : Mode). ReachedIn m s.below s.top s.attr s.value body) (trail_is s.mode trail) (reached_of body s goes) in
        subst (IsBody body) (sym (some_same e r.0 (found ∙ ap (λ (x : Tree). child_of x.items) r.3))) r.2

pub read_short : (body : List ℕ) (s : State) → length body ≤ MAX_TEXT → run (Some start) body ≡ Some s → None ≡ element_of s.mode s.top.items → Refuses body (TextError.Malformed (length body))
read_short body s small goes none =
    (small, stops_short body s small goes (λ e is. never e is), λ p is. absurd (let octet = is.octet in omega arith))
  where
    found : Option State → Option Tree
    found None = None
    found (Some x) = element_of x.mode x.top.items

    never : (e : Tree) → IsBody body e → ⊥
    never e is =
        let r = body-run body e is in
        absurd (cc (none ∙ ap found (sym goes ∙ r.2)))
