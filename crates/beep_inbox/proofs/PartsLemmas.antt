-- The runs that parts cut from one list of octets: put after the others, and taken from the front.
use Rattle.std.proofs.Common.{◌≡◌, ℕ, ◌+◌, ◌-◌, ◌≤◌, ◌==◌, min, nat_lt, Bool, true, false, ◌&&◌, ◌||◌, ◌⊎◌, subst, if◌then◌else◌, List, [], ◌∷◌, ◌++◌, length, take, drop, refl, sym, ap, ◌∙◌, arith, length-append}
use Rattle.std.proofs.lemmas.Bool.Decides.{nat_tests}
use Rattle.std.proofs.lemmas.List.{append-nil, take_all, take-take, drop-take, drop-drop, take-append-le, drop-append-le, drop_all, length-take-le, length-drop, nil_from_length}
use Rattle.std.proofs.Math.Seq.{drop-append_seam}
use Rattle.beep_inbox.specs.declared.part.Part.{Part}
use Rattle.beep_inbox.specs.Runs.{Run, octets_of, has_mark, AllMarked, put_after, put_run, left_runs}
use Rattle.beep_inbox.proofs.RunsLemmas.{put-marked}
use Rattle.beep_inbox.specs.Untaken.{IsTaken, run_of, runs_of, lengths, goes_on, joined_part, put_part, beginning, remainder, first_part, left_parts}

-- ---- how many octets

pub runs-octets : (parts : List Part) (octets : List ℕ) → lengths parts ≡ length octets
    → octets_of (runs_of parts octets) ≡ length octets
runs-octets [] octets e = e
runs-octets (part ∷ parts) octets e =
    let len : length (take part.len octets) ≡ part.len =
    length-take-le part.len octets (omega (arith, e)) in
    let left : length (drop part.len octets) ≡ length octets - part.len =
    length-drop part.len octets in
    let rest : octets_of (runs_of parts (drop part.len octets)) ≡ length (drop part.len octets) =
    runs-octets parts (drop part.len octets) (omega (arith, e, left)) in
    omega (arith, e, len, left, rest)

pub runs-count : (parts : List Part) (octets : List ℕ)
    → length (runs_of parts octets) ≡ length parts
runs-count [] octets = refl
runs-count (part ∷ parts) octets =
    let rest = runs-count parts (drop part.len octets) in omega (arith, rest)

-- ---- put

pub put-lengths : (parts : List Part) (part : Part)
    → lengths (put_part parts part) ≡ lengths parts + part.len
put-lengths [] part = omega arith
put-lengths (last ∷ []) part = by (goes_on part last)
  where
    by : (b : Bool) → lengths (if b then joined_part last part ∷ [] else last ∷ part ∷ [])
        ≡ (last.len + 0) + part.len
    by true = omega arith
    by false = omega arith
put-lengths (first ∷ next ∷ parts) part =
    let rest : lengths (put_part (next ∷ parts) part) ≡ lengths (next ∷ parts) + part.len =
    put-lengths (next ∷ parts) part in
    omega (arith, rest)

-- put after a last part
pub put-last : (parts : List Part) (last part : Part)
    → put_part (parts ++ last ∷ []) part
    ≡ (if goes_on part last
    then parts ++ joined_part last part ∷ []
    else (parts ++ last ∷ []) ++ part ∷ [])
put-last [] last part = refl
put-last (first ∷ []) last part = by (goes_on part last)
  where
    by : (b : Bool) → first ∷ (if b then joined_part last part ∷ [] else last ∷ part ∷ [])
        ≡ (if b then first ∷ joined_part last part ∷ [] else first ∷ last ∷ part ∷ [])
    by true = refl
    by false = refl
put-last (first ∷ next ∷ parts) last part =
    ap (λ (ps : List Part). first ∷ ps) (put-last (next ∷ parts) last part) ∙ by (goes_on part last)
  where
    by : (b : Bool) → first ∷ (if b
        then (next ∷ parts) ++ joined_part last part ∷ []
        else ((next ∷ parts) ++ last ∷ []) ++ part ∷ [])
        ≡ (if b
        then (first ∷ next ∷ parts) ++ joined_part last part ∷ []
        else ((first ∷ next ∷ parts) ++ last ∷ []) ++ part ∷ [])
    by true = refl
    by false = refl

-- the runs of the parts with one more, and its octets after the others
pub put-runs : (parts : List Part) (part : Part) (octets more : List ℕ)
    → lengths parts ≡ length octets → part.len ≡ length more
    → runs_of (put_part parts part) (octets ++ more)
    ≡ put_after (runs_of parts octets) (run_of part more)
put-runs [] part octets more e f =
    rw (nil_from_length octets (sym e))
    (ap (λ (os : List ℕ). run_of part os ∷ []) (take_all part.len more (omega (arith, f))))
put-runs (last ∷ []) part octets more e f = by (goes_on part last)
  where
    whole : take last.len octets ≡ octets
    whole = take_all last.len octets (omega (arith, e))

    both : take (last.len + part.len) (octets ++ more) ≡ take last.len octets ++ more
    both =
        take_all (last.len + part.len) (octets ++ more)
        (omega (arith, e, f, length-append octets more))
        ∙ ap (λ (os : List ℕ). os ++ more) (sym whole)

    at : last.len ≡ length octets
    at = omega (arith, e)

    ahead : take last.len (octets ++ more) ≡ take last.len octets
    ahead = take-append-le last.len octets more (omega (arith, at))

    later : take part.len (drop last.len (octets ++ more)) ≡ more
    later = ap (λ (os : List ℕ). take part.len os)
        (ap (λ (n : ℕ). drop n (octets ++ more)) at ∙ drop-append_seam octets more)
        ∙ take_all part.len more (omega (arith, f))

    by : (b : Bool)
        → runs_of (if b then joined_part last part ∷ [] else last ∷ part ∷ []) (octets ++ more)
        ≡ (if b
        then record {
          tag = last.tag;
          octets = take last.len octets
              ++ more;
          ended = part.ended;
        } ∷ []
        else run_of last (take last.len octets) ∷ run_of part more ∷ [])
    by true =
        ap (λ (os : List ℕ). record { tag = last.tag; octets = os; ended = part.ended } ∷ []) both
    by false = rw (ahead, later) refl
put-runs (first ∷ next ∷ parts) part octets more e f =
    let within : first.len ≤ length octets = omega (arith, e) in
    let left : length (drop first.len octets) ≡ length octets - first.len =
    length-drop first.len octets in
    let rest : runs_of (put_part (next ∷ parts) part) (drop first.len octets ++ more)
    ≡ put_after (runs_of (next ∷ parts) (drop first.len octets)) (run_of part more) =
    put-runs (next ∷ parts) part (drop first.len octets) more (omega (arith, e, left)) f in
    rw (take-append-le first.len octets more within, drop-append-le first.len octets more within)
    (ap (λ (runs : List Run). run_of first (take first.len octets) ∷ runs) rest)

-- ---- taken

pub left-lengths : (n : ℕ) (first : Part) (others : List Part) → n ≤ first.len
    → n + lengths (left_parts n first others) ≡ first.len + lengths others
left-lengths n first others within = by (nat_lt n first.len) refl
  where
    by : (b : Bool) → nat_lt n first.len ≡ b
        → n + lengths (if b then remainder n first ∷ others else others)
        ≡ first.len + lengths others
    by true e = omega (arith, within)
    by false e = grind (arith, nat_tests)

-- the runs of what is left of the parts, without the octets that were taken
pub left-runs : (n : ℕ) (first : Part) (others : List Part) (octets : List ℕ) → n ≤ first.len
    → first.len ≤ length octets
    → runs_of (left_parts n first others) (drop n octets)
    ≡ left_runs n (runs_of (first ∷ others) octets)
left-runs n first others octets within all =
    rw (length-take-le first.len octets all) (by (nat_lt n first.len) refl)
  where
    one : n + (first.len - n) ≡ first.len
    one = omega (arith, within)

    cut : take (first.len - n) (drop n octets) ≡ drop n (take first.len octets)
    cut = sym (drop-take n (first.len - n) octets) ∙ ap (λ (m : ℕ). drop n (take m octets)) one

    rest : drop (first.len - n) (drop n octets) ≡ drop first.len octets
    rest = drop-drop (first.len - n) n octets ∙ ap (λ (m : ℕ). drop m octets) one

    same : nat_lt n first.len ≡ false → n ≡ first.len
    same e = grind (arith, nat_tests)

    by : (b : Bool) → nat_lt n first.len ≡ b
        → runs_of (if b then remainder n first ∷ others else others) (drop n octets)
        ≡ (if b
        then record {
          tag = first.tag;
          octets = drop n
              (take first.len octets);
          ended = first.ended;
        } ∷ runs_of others (drop first.len octets)
        else runs_of others (drop first.len octets))
    by true e = rw (cut, rest) refl
    by false e = ap (λ (m : ℕ). runs_of others (drop m octets)) (same e)

-- ---- as the code finds the last part

pub lengths-last : (parts : List Part) (last : Part)
    → lengths (parts ++ last ∷ []) ≡ lengths parts + last.len
lengths-last [] last = omega arith
lengths-last (part ∷ parts) last = let rest = lengths-last parts last in omega (arith, rest)

pub put-joined : (parts : List Part) (last part : Part) → goes_on part last ≡ true
    → put_part (parts ++ last ∷ []) part
    ≡ parts ++ joined_part last part ∷ []
put-joined parts last part e = put-last parts last part ∙ choose (goes_on part last) e
  where
    choose : (b : Bool) → b ≡ true
        → (if b
        then parts ++ joined_part last part ∷ []
        else (parts ++ last ∷ []) ++ part ∷ [])
        ≡ parts ++ joined_part last part ∷ []
    choose b f = rw f refl

pub put-new : (parts : List Part) (last part : Part) → goes_on part last ≡ false
    → put_part (parts ++ last ∷ []) part ≡ (parts ++ last ∷ []) ++ part ∷ []
put-new parts last part e = put-last parts last part ∙ choose (goes_on part last) e
  where
    choose : (b : Bool) → b ≡ false
        → (if b
        then parts ++ joined_part last part ∷ []
        else (parts ++ last ∷ []) ++ part ∷ [])
        ≡ (parts ++ last ∷ []) ++ part ∷ []
    choose b f = rw f refl

-- ---- what a put and a take leave

marked-some : (empty : Bool) (octets : List ℕ) (ended : Bool) → empty ≡ (length octets == 0)
    → ((empty ≡ true) × (ended ≡ true)) ⊎ (empty ≡ false)
    → (nat_lt 0 (length octets) || ended) ≡ true
marked-some empty octets ended e either = grind (arith, nat_tests)

-- what an inbox keeps after a put
pub record Puts (parts : List Part) (octets : List ℕ) (part : Part) (more : List ℕ) : Type 0 where
  pub lengths_are : lengths (put_part parts part) ≡ length (octets ++ more)
  pub runs_are : runs_of (put_part parts part) (octets ++ more)
      ≡ put_run (runs_of parts octets) (run_of part more)
  pub marked : AllMarked (runs_of (put_part parts part) (octets ++ more))

pub puts : (parts : List Part) (octets : List ℕ) (part : Part) (more : List ℕ) (empty : Bool)
    → lengths parts ≡ length octets → AllMarked (runs_of parts octets) → part.len ≡ length more
    → empty ≡ (length more == 0) → ((empty ≡ true) × (part.ended ≡ true)) ⊎ (empty ≡ false)
    → Puts parts octets part more
puts parts octets part more empty e all f is-empty either = record {
  lengths_are = put-lengths parts part
      ∙ (let len = length-append octets more in omega (arith, e, f, len));
  runs_are = runs;
  marked = subst AllMarked (sym runs) (put-marked (runs_of parts octets) (run_of part more) all);
}
  where
    some : has_mark (run_of part more) ≡ true
    some = marked-some empty more part.ended is-empty either

    choose : (b : Bool) → b ≡ true → put_after (runs_of parts octets) (run_of part more)
        ≡ (if b then put_after (runs_of parts octets) (run_of part more) else runs_of parts octets)
    choose b g = rw g refl

    runs : runs_of (put_part parts part) (octets ++ more)
        ≡ put_run (runs_of parts octets) (run_of part more)
    runs = put-runs parts part octets more e f ∙ choose (has_mark (run_of part more)) some

module _ (most : ℕ) (first : Part) where
  first-tag : (first_part most first).tag ≡ first.tag
  first-tag = by (nat_lt most first.len)
    where
      by : (b : Bool) → (if b then beginning most first else first).tag ≡ first.tag
      by true = refl
      by false = refl

  first-len : (first_part most first).len ≡ min first.len most
  first-len = by (nat_lt most first.len) refl
    where
      by : (b : Bool) → nat_lt most first.len ≡ b
          → (if b then beginning most first else first).len ≡ min first.len most
      by true e = grind (arith, nat_tests)
      by false e = grind (arith, nat_tests)

  first-ended : (first_part most first).ended
      ≡ (first.ended && ((first_part most first).len == first.len))
  first-ended = by (nat_lt most first.len) refl
    where
      apart : (b : Bool) → nat_lt most first.len ≡ true → false ≡ (b && (most == first.len))
      apart b e = grind (arith, nat_tests)

      same : (b : Bool) → b ≡ (b && (first.len == first.len))
      same b = grind (arith, nat_tests)

      by : (b : Bool) → nat_lt most first.len ≡ b
          → (if b then beginning most first else first).ended
          ≡ (first.ended && ((if b then beginning most first else first).len == first.len))
      by true e = apart first.ended e
      by false e = same first.ended

  left-first : (others : List Part)
      → left_parts most first others ≡ left_parts (min first.len most) first others
  left-first others = by (nat_lt most first.len) refl
    where
      least : nat_lt most first.len ≡ true → most ≡ min first.len most
      least e = grind (arith, nat_tests)

      not-less : nat_lt most first.len ≡ false → nat_lt (min first.len most) first.len ≡ false
      not-less e = grind (arith, nat_tests)

      by : (b : Bool) → nat_lt most first.len ≡ b
          → left_parts most first others ≡ left_parts (min first.len most) first others
      by true e = ap (λ (n : ℕ). left_parts n first others) (least e)
      by false e = rw (e, not-less e) refl

-- what a take is, by what the code does
pub takes : (part first : Part) (others parts : List Part) (octets left buf dst : List ℕ)
    (old : List Run) (most n : ℕ)
    → first.len ≤ length octets → part ≡ first_part most first
    → parts ≡ left_parts most first others
    → most ≡ length buf → old ≡ runs_of (first ∷ others) octets
    → n ≡ min (length (take part.len buf)) (length octets)
    → left ≡ drop n octets → dst ≡ take n octets ++ drop n (take part.len buf)
    → IsTaken part old (runs_of parts left) buf (dst ++ drop part.len buf)
takes part first others parts octets left buf dst old most n
    all part-is parts-is most-is old-is n-is left-is dst-is = record {
      first = run_of first (take first.len octets);
      others = runs_of others (drop first.len octets);
      is = old-is;
      tag = ap (λ (p : Part). p.tag) part-is ∙ first-tag most first;
      len = least ∙ ap (λ (m : ℕ). min m (length buf)) (sym whole);
      ended = ap (λ (p : Part). p.ended) part-is ∙ first-ended most first
          ∙ ap (λ (m : ℕ). first.ended && (m == first.len)) (sym (ap (λ (p : Part). p.len) part-is))
          ∙ ap (λ (m : ℕ). first.ended && (part.len == m)) (sym whole);
      left = rw (parts-is, left-is, n-whole, old-is)
          (ap (λ (ps : List Part). runs_of ps (drop part.len octets))
          (left-first most first others ∙ ap (λ (m : ℕ). left_parts m first others) (sym len))
          ∙ left-runs part.len first others octets within all);
      octets = ap (λ (os : List ℕ). os ++ drop part.len buf) taken;
    }
  where
    len : part.len ≡ min first.len most
    len = ap (λ (p : Part). p.len) part-is ∙ first-len most first

    least : part.len ≡ min first.len (length buf)
    least = len ∙ ap (λ (m : ℕ). min first.len m) most-is

    within : part.len ≤ first.len
    within = omega (arith, len)

    whole : length (take first.len octets) ≡ first.len
    whole = length-take-le first.len octets all

    fits : length (take part.len buf) ≡ part.len
    fits = length-take-le part.len buf (omega (arith, least))

    n-whole : n ≡ part.len
    n-whole = omega (arith, n-is, fits, within, all)

    taken : dst ≡ take part.len (take first.len octets)
    taken = dst-is
        ∙ ap (λ (os : List ℕ). take n octets ++ os)
        (drop_all n (take part.len buf) (omega (arith, fits, n-whole)))
        ∙ append-nil (take n octets)
        ∙ ap (λ (m : ℕ). take m octets) n-whole
        ∙ sym (take-take part.len first.len octets within)
