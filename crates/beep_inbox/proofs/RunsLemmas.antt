-- Runs as marks: put after the others, and taken from the front.
use Rattle.std.proofs.Common.{◌≡◌, ℕ, ◌+◌, ◌<◌, ◌≤◌, ◌==◌, min, nat_lt, Bool, true, false, not, ◌&&◌, ◌||◌, if◌then◌else◌, List, [], ◌∷◌, ◌++◌, map, length, take, drop, refl, sym, ap, ◌∙◌, arith, append_assoc, length-append}
use Rattle.std.proofs.lemmas.Bool.{and_parts, eqb-true}
use Rattle.std.proofs.lemmas.Bool.Decides.{nat_tests}
use Rattle.std.proofs.lemmas.List.{append-nil, map-append, take_all, take-append-drop, take-append-le, length-take-le, length-drop}
use Rattle.beep_frame.specs.declared.kind.Kind.{Kind}
use Rattle.beep_frame.specs.declared.tag.Tag.{Tag}
use Rattle.beep_frame.specs.Frame.{same_kind}
use Rattle.beep_history.specs.Marks.{Mark, octet, end}
use Rattle.beep_history.specs.Messages.{same_tag}
use Rattle.beep_inbox.specs.Runs.{Run, marks_with, run_marks, marks_of, octets_of, has_mark, AllMarked, joins, joined, put_after, put_run, left_runs}

-- ---- two tags that are one

kinds-one : (a b : Kind) → same_kind a b ≡ true → a ≡ b
kinds-one a b e = grind (arith, nat_tests)

tags-one : (a b : Tag) → same_tag a b ≡ true → a ≡ b
tags-one a b e =
    let p = and_parts _ _ e in
    let q = and_parts _ _ p.0 in
    let kind : a.kind ≡ b.kind = kinds-one a.kind b.kind q.0 in
    let request : a.request ≡ b.request = eqb-true _ _ q.1 in
    let ansno : a.ansno ≡ b.ansno = eqb-true _ _ p.1 in
    make-one a.kind b.kind a.request b.request a.ansno b.ansno kind request ansno
  where
    make-one : (k k' : Kind) (r r' n n' : ℕ) → k ≡ k' → r ≡ r' → n ≡ n'
        → ◌≡◌ {A = Tag} (record { kind = k; request = r; ansno = n })
        (record { kind = k'; request = r'; ansno = n' })
    make-one k k' r r' n n' e f g = rw (e, f, g)

-- ---- the marks of octets that join

joined-marks : (tag : Tag) (xs ys : List ℕ) (ended : Bool)
    → marks_with tag (xs ++ ys) ended ≡ marks_with tag xs false ++ marks_with tag ys ended
joined-marks tag xs ys ended =
    ap (λ (ms : List Mark). ms ++ (if ended then end tag ∷ [] else []))
    (map-append (octet tag) xs ys)
    ∙ append_assoc (map (octet tag) xs) (map (octet tag) ys) (if ended then end tag ∷ [] else [])
    ∙ ap (λ (ms : List Mark). ms ++ marks_with tag ys ended) (sym (append-nil (map (octet tag) xs)))

-- after a run of the same message that isn't ended
joined-run : (tag other : Tag) (xs ys : List ℕ) (before ended : Bool) → other ≡ tag → before ≡ false
    → marks_with tag (xs ++ ys) ended ++ []
    ≡ (marks_with tag xs before ++ []) ++ marks_with other ys ended
joined-run tag other xs ys before ended same open' =
    append-nil (marks_with tag (xs ++ ys) ended)
    ∙ joined-marks tag xs ys ended
    ∙ ap (λ (ms : List Mark). ms ++ marks_with tag ys ended)
    (sym (append-nil (marks_with tag xs false)))
    ∙ back
  where
    back : (marks_with tag xs false ++ []) ++ marks_with tag ys ended
        ≡ (marks_with tag xs before ++ []) ++ marks_with other ys ended
    back = rw (same, open') refl

not-true : (b : Bool) → not b ≡ true → b ≡ false
not-true false e = refl
not-true true e = absurd (cc)

has-none : (xs : List ℕ) → (nat_lt 0 (length xs) || true) ≡ false → ⊥
has-none xs e = grind (arith, nat_tests)

has-one : (x : ℕ) (xs : List ℕ) (ended : Bool) → (nat_lt 0 (length (x ∷ xs)) || ended) ≡ false → ⊥
has-one x xs ended e = grind (arith, nat_tests)

nil-marks : (tag : Tag) (octets : List ℕ) (ended : Bool)
    → (nat_lt 0 (length octets) || ended) ≡ false
    → marks_with tag octets ended ≡ []
nil-marks tag [] false e = refl
nil-marks tag [] true e = absurd (has-none [] e)
nil-marks tag (x ∷ xs) ended e = absurd (has-one x xs ended e)

nil-octets : (octets : List ℕ) (ended : Bool) → (nat_lt 0 (length octets) || ended) ≡ false
    → length octets ≡ 0
nil-octets [] ended e = refl
nil-octets (x ∷ xs) ended e = absurd (has-one x xs ended e)

some-joined : (xs ys : List ℕ) (ended : Bool) → (nat_lt 0 (length ys) || ended) ≡ true
    → (nat_lt 0 (length (xs ++ ys)) || ended) ≡ true
some-joined xs ys ended e = let len = length-append xs ys in grind (arith, nat_tests, len)

-- ---- a run after the others

marks-after : (runs : List Run) (run : Run)
    → marks_of (put_after runs run) ≡ marks_of runs ++ run_marks run
marks-after [] run = append-nil (run_marks run)
marks-after (last ∷ []) run = by (joins run last) refl
  where
    by : (b : Bool) → joins run last ≡ b
        → marks_of (if b then joined last run ∷ [] else last ∷ run ∷ [])
        ≡ (run_marks last ++ []) ++ run_marks run
    by true e =
        let p = and_parts _ _ e in
        joined-run last.tag run.tag last.octets run.octets last.ended run.ended
        (tags-one run.tag last.tag p.0) (not-true last.ended p.1)
    by false e =
        ap (λ (ms : List Mark). run_marks last ++ ms) (append-nil (run_marks run))
        ∙ ap (λ (ms : List Mark). ms ++ run_marks run) (sym (append-nil (run_marks last)))
marks-after (first ∷ next ∷ runs) run =
    ap (λ (ms : List Mark). run_marks first ++ ms) (marks-after (next ∷ runs) run)
    ∙ sym (append_assoc (run_marks first) (marks_of (next ∷ runs)) (run_marks run))

octets-after : (runs : List Run) (run : Run)
    → octets_of (put_after runs run) ≡ octets_of runs + length run.octets
octets-after [] run = omega arith
octets-after (last ∷ []) run = by (joins run last)
  where
    by : (b : Bool)
        → octets_of (if b then joined last run ∷ [] else last ∷ run ∷ [])
        ≡ (length last.octets + 0) + length run.octets
    by true = omega (arith, length-append last.octets run.octets)
    by false = omega arith
octets-after (first ∷ next ∷ runs) run =
    let rest : octets_of (put_after (next ∷ runs) run)
    ≡ octets_of (next ∷ runs) + length run.octets =
    octets-after (next ∷ runs) run in
    omega (arith, rest)

marked-after : (runs : List Run) (run : Run) → AllMarked runs → has_mark run ≡ true
    → AllMarked (put_after runs run)
marked-after [] run all e = (e, tt)
marked-after (last ∷ []) run all e = by (joins run last)
  where
    by : (b : Bool) → AllMarked (if b then joined last run ∷ [] else last ∷ run ∷ [])
    by true = (some-joined last.octets run.octets run.ended e, tt)
    by false = (all.0, (e, tt))
marked-after (first ∷ next ∷ runs) run all e = (all.0, marked-after (next ∷ runs) run all.1 e)

-- ---- put

pub put-marks : (runs : List Run) (run : Run)
    → marks_of (put_run runs run) ≡ marks_of runs ++ run_marks run
put-marks runs run = by (has_mark run) refl
  where
    by : (b : Bool) → has_mark run ≡ b
        → marks_of (if b then put_after runs run else runs) ≡ marks_of runs ++ run_marks run
    by true e = marks-after runs run
    by false e =
        sym (append-nil (marks_of runs))
        ∙ ap (λ (ms : List Mark). marks_of runs ++ ms)
        (sym (nil-marks run.tag run.octets run.ended e))

pub put-octets : (runs : List Run) (run : Run)
    → octets_of (put_run runs run) ≡ octets_of runs + length run.octets
put-octets runs run = by (has_mark run) refl
  where
    by : (b : Bool) → has_mark run ≡ b
        → octets_of (if b then put_after runs run else runs) ≡ octets_of runs + length run.octets
    by true e = octets-after runs run
    by false e = omega (arith, nil-octets run.octets run.ended e)

pub put-marked : (runs : List Run) (run : Run) → AllMarked runs → AllMarked (put_run runs run)
put-marked runs run all = by (has_mark run) refl
  where
    by : (b : Bool) → has_mark run ≡ b → AllMarked (if b then put_after runs run else runs)
    by true e = marked-after runs run all e
    by false e = all

-- ---- taken

-- the buffer begins with what was taken
begins : (n : ℕ) (xs ys : List ℕ) → n ≤ length xs → take n (take n xs ++ ys) ≡ take n xs
begins n xs ys within =
    let len : length (take n xs) ≡ n = length-take-le n xs within in
    take-append-le n (take n xs) ys (omega (arith, len))
    ∙ take_all n (take n xs) (omega (arith, len))

left-marks : (first : Run) (others : List Run) (n : ℕ) → n ≤ length first.octets
    → marks_with first.tag (take n first.octets) (first.ended && (n == length first.octets))
    ++ marks_of (left_runs n (first ∷ others))
    ≡ marks_of (first ∷ others)
left-marks first others n within =
    by (nat_lt n (length first.octets)) (n == length first.octets) refl refl
  where
    split : marks_with first.tag (take n first.octets) false ++
        (marks_with first.tag (drop n first.octets) first.ended ++ marks_of others)
        ≡ run_marks first ++ marks_of others
    split =
        sym (append_assoc (marks_with first.tag (take n first.octets) false)
        (marks_with first.tag (drop n first.octets) first.ended) (marks_of others))
        ∙ ap (λ (ms : List Mark). ms ++ marks_of others)
        (sym (joined-marks first.tag (take n first.octets) (drop n first.octets) first.ended))
        ∙ ap (λ (os : List ℕ). marks_with first.tag os first.ended ++ marks_of others)
        (take-append-drop n first.octets)

    and-false : (b : Bool) → (b && false) ≡ false
    and-false true = refl
    and-false false = refl

    and-true : (b : Bool) → (b && true) ≡ b
    and-true true = refl
    and-true false = refl

    by : (b w : Bool) → nat_lt n (length first.octets) ≡ b → (n == length first.octets) ≡ w
        → marks_with first.tag (take n first.octets) (first.ended && w)
        ++ marks_of (if b then record first { octets = drop n first.octets } ∷ others else others)
        ≡ marks_of (first ∷ others)
    by true false e f =
        ap (λ (ended : Bool). marks_with first.tag (take n first.octets) ended ++
        (marks_with first.tag (drop n first.octets) first.ended
        ++ marks_of others)) (and-false first.ended)
        ∙ split
    by false true e f =
        ap (λ (ended : Bool). marks_with first.tag (take n first.octets) ended ++ marks_of others)
        (and-true first.ended)
        ∙ ap (λ (os : List ℕ). marks_with first.tag os first.ended ++ marks_of others)
        (take_all n first.octets (omega (arith, eqb-true _ _ f)))
    by true true e f = absurd (apart e (eqb-true _ _ f))
      where
        apart : nat_lt n (length first.octets) ≡ true → n ≡ length first.octets → ⊥
        apart less same = grind (arith, nat_tests)
    by false false e f = absurd (meet e f)
      where
        meet : nat_lt n (length first.octets) ≡ false → (n == length first.octets) ≡ false → ⊥
        meet less same = grind (arith, nat_tests)

pub take-marks : (first : Run) (others : List Run) (tag : Tag) (n : ℕ) (ended : Bool)
    (old new : List Run) (before after : List ℕ)
    → old ≡ first ∷ others → tag ≡ first.tag → n ≡ min (length first.octets) (length before)
    → ended ≡ (first.ended && (n == length first.octets)) → new ≡ left_runs n old
    → after ≡ take n first.octets ++ drop n before
    → marks_with tag (take n after) ended ++ marks_of new ≡ marks_of old
take-marks first others tag n ended old new before after is same least last left octets =
    let within : n ≤ length first.octets = omega (arith, least) in
    rw (left, octets, last, same, is, begins n first.octets (drop n before) within)
    (left-marks first others n within)

left-octets : (first : Run) (others : List Run) (n : ℕ) → n ≤ length first.octets
    → n + octets_of (left_runs n (first ∷ others)) ≡ octets_of (first ∷ others)
left-octets first others n within = by (nat_lt n (length first.octets)) refl
  where
    by : (b : Bool) → nat_lt n (length first.octets) ≡ b
        → n + octets_of (if b then record first { octets = drop n first.octets } ∷ others
        else others) ≡ length first.octets + octets_of others
    by true e = omega (arith, length-drop n first.octets)
    by false e = grind (arith, nat_tests)

pub take-octets : (first : Run) (others : List Run) (n : ℕ) (old new : List Run) (before : List ℕ)
    → old ≡ first ∷ others → n ≡ min (length first.octets) (length before) → new ≡ left_runs n old
    → n + octets_of new ≡ octets_of old
take-octets first others n old new before is least left =
    rw (left, is) (left-octets first others n (omega (arith, least)))

pub left-marked : (n : ℕ) (runs : List Run) → AllMarked runs → AllMarked (left_runs n runs)
left-marked n [] all = tt
left-marked n (first ∷ others) all = by (nat_lt n (length first.octets)) refl
  where
    some : (m : ℕ) (ended : Bool) → 0 < m → (nat_lt 0 m || ended) ≡ true
    some m ended e = grind (arith, nat_tests)

    more : nat_lt n (length first.octets) ≡ true → 0 < length (drop n first.octets)
    more e = let len = length-drop n first.octets in grind (arith, nat_tests, len)

    by : (b : Bool) → nat_lt n (length first.octets) ≡ b
        → AllMarked (if b then record first { octets = drop n first.octets } ∷ others else others)
    by true e = (some (length (drop n first.octets)) first.ended (more e), all.1)
    by false e = all.1
