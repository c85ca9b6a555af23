-- The messages that entries cut from one list of octets: given after the others, and cut.
use Rattle.std.proofs.Common.{◌≡◌, ℕ, ◌+◌, ◌-◌, ◌≤◌, ◌==◌, min, nat_lt, Bool, true, false, not, if◌then◌else◌, List, [], ◌∷◌, ◌++◌, length, take, drop, refl, sym, ap, ◌∙◌, arith, append_assoc}
use Rattle.std.proofs.lemmas.Bool.Decides.{nat_tests}
use Rattle.std.proofs.lemmas.List.{append-nil, take_all, take-take, drop-take, drop-drop, take-append-le, drop-append-le, length-take-le, length-drop, nil_from_length}
use Rattle.std.proofs.Math.Seq.{take-append-add}
use Rattle.beep_frame.specs.declared.tag.Tag.{Tag}
use Rattle.beep_outbox.specs.declared.entry.Entry.{Entry}
use Rattle.beep_outbox.specs.Queue.{Message, octets_of, first_octets, left_after}
use Rattle.beep_outbox.specs.Unsent.{IsCut, CutsEntry, messages_of, lengths, remainder, left_entries}

pub messages-octets : (entries : List Entry) (octets : List ℕ) → lengths entries ≡ length octets
    → octets_of (messages_of entries octets) ≡ length octets
messages-octets [] octets e = e
messages-octets (entry ∷ entries) octets e =
    let len : length (take entry.len octets) ≡ entry.len =
    length-take-le entry.len octets (omega (arith, e)) in
    let left : length (drop entry.len octets) ≡ length octets - entry.len =
    length-drop entry.len octets in
    let rest : octets_of (messages_of entries (drop entry.len octets))
    ≡ length (drop entry.len octets) =
    messages-octets entries (drop entry.len octets) (omega (arith, e, left)) in
    omega (arith, e, len, left, rest)

pub messages-count : (entries : List Entry) (octets : List ℕ)
    → length (messages_of entries octets) ≡ length entries
messages-count [] octets = refl
messages-count (entry ∷ entries) octets =
    let rest = messages-count entries (drop entry.len octets) in omega (arith, rest)

pub lengths-given : (entries : List Entry) (entry : Entry)
    → lengths (entries ++ entry ∷ []) ≡ lengths entries + entry.len
lengths-given [] entry = omega arith
lengths-given (first ∷ others) entry = let rest = lengths-given others entry in omega (arith, rest)

-- a message after the others, and its octets after theirs
pub messages-given : (entries : List Entry) (entry : Entry) (octets more : List ℕ)
    → lengths entries ≡ length octets → entry.len ≡ length more
    → messages_of (entries ++ entry ∷ []) (octets ++ more)
    ≡ messages_of entries octets ++ record { tag = entry.tag; octets = more } ∷ []
messages-given [] entry octets more e f =
    rw (nil_from_length octets (sym e))
    (ap (λ (os : List ℕ). record { tag = entry.tag; octets = os } ∷ [])
    (take_all entry.len more (omega (arith, f))))
messages-given (first ∷ others) entry octets more e f =
    let within : first.len ≤ length octets = omega (arith, e) in
    let left : length (drop first.len octets) ≡ length octets - first.len =
    length-drop first.len octets in
    let rest =
    messages-given others entry (drop first.len octets) more (omega (arith, e, left)) f in
    rw (take-append-le first.len octets more within, drop-append-le first.len octets more within)
    (ap (λ (ms : List Message). record { tag = first.tag; octets = take first.len octets } ∷ ms)
    rest)

-- what is left of the messages after a cut
messages-left : (count : ℕ) (first : Entry) (others : List Entry) (octets : List ℕ)
    → count ≤ first.len → first.len ≤ length octets
    → messages_of (left_entries count first others) (drop count octets)
    ≡ left_after count (messages_of (first ∷ others) octets)
messages-left count first others octets within all =
    rw (length-take-le first.len octets all) (by (nat_lt count first.len) refl)
  where
    one : count + (first.len - count) ≡ first.len
    one = omega (arith, within)

    cut : take (first.len - count) (drop count octets) ≡ drop count (take first.len octets)
    cut = sym (drop-take count (first.len - count) octets)
        ∙ ap (λ (m : ℕ). drop count (take m octets)) one

    rest : drop (first.len - count) (drop count octets) ≡ drop first.len octets
    rest = drop-drop (first.len - count) count octets ∙ ap (λ (m : ℕ). drop m octets) one

    same : nat_lt count first.len ≡ false → count ≡ first.len
    same e = grind (arith, nat_tests)

    by : (b : Bool) → nat_lt count first.len ≡ b
        → messages_of (if b then remainder count first ∷ others else others) (drop count octets)
        ≡ (if b
        then record {
          tag = first.tag;
          octets = drop count (take first.len octets);
        } ∷ messages_of others (drop first.len octets)
        else messages_of others (drop first.len octets))
    by true e = rw (cut, rest) refl
    by false e = ap (λ (m : ℕ). messages_of others (drop m octets)) (same e)

-- what a cut is, by what the code does
pub is-cut : (most : ℕ) (tag : Tag) (count : ℕ) (more : Bool) (entries news : List Entry)
    (octets left : List ℕ) (old : List Message)
    → CutsEntry most tag count more entries news → lengths entries ≡ length octets
    → old ≡ messages_of entries octets → left ≡ drop count octets
    → IsCut most tag count more old (messages_of news left)
is-cut most tag count more entries news octets left old cuts e old-is left-is = record {
  first = record { tag = cuts.first.tag; octets = take cuts.first.len octets };
  others = messages_of cuts.others (drop cuts.first.len octets);
  is = split;
  tag_is = cuts.tag_is;
  count_is = cuts.count_is ∙ ap (λ (n : ℕ). min most n) (sym whole);
  more_is = cuts.more_is ∙ ap (λ (n : ℕ). nat_lt count n) (sym whole);
  left = ap (λ (es : List Entry). messages_of es left) cuts.left
      ∙ ap (λ (os : List ℕ). messages_of (left_entries count cuts.first cuts.others) os) left-is
      ∙ messages-left count cuts.first cuts.others octets within all
      ∙ ap (left_after count) (sym split);
}
  where
    sum : lengths entries ≡ cuts.first.len + lengths cuts.others
    sum = ap lengths cuts.is

    all : cuts.first.len ≤ length octets
    all = omega (arith, sum, e)

    within : count ≤ cuts.first.len
    within = let c = cuts.count_is in omega (arith, c)

    whole : length (take cuts.first.len octets) ≡ cuts.first.len
    whole = length-take-le cuts.first.len octets all

    split : old ≡ messages_of (cuts.first ∷ cuts.others) octets
    split = old-is ∙ ap (λ (es : List Entry). messages_of es octets) cuts.is

-- the octets that are cut are the first of the first message
pub cut-octets : (most : ℕ) (tag : Tag) (count : ℕ) (more : Bool) (entries news : List Entry)
    (octets : List ℕ)
    → CutsEntry most tag count more entries news
    → take count octets ≡ take count (first_octets (messages_of entries octets))
cut-octets most tag count more entries news octets cuts =
    sym (ap (λ (es : List Entry). take count (first_octets (messages_of es octets))) cuts.is
    ∙ take-take count cuts.first.len octets (let c = cuts.count_is in omega (arith, c)))

pub lengths-cut : (most : ℕ) (tag : Tag) (count : ℕ) (more : Bool) (entries news : List Entry)
    → CutsEntry most tag count more entries news → count + lengths news ≡ lengths entries
lengths-cut most tag count more entries news cuts =
    ap (λ (es : List Entry). count + lengths es) cuts.left
    ∙ by (nat_lt count cuts.first.len) refl
    ∙ sym (ap lengths cuts.is)
  where
    within : count ≤ cuts.first.len
    within = let c = cuts.count_is in omega (arith, c)

    by : (b : Bool) → nat_lt count cuts.first.len ≡ b
        → count + lengths (if b then remainder count cuts.first ∷ cuts.others else cuts.others)
        ≡ cuts.first.len + lengths cuts.others
    by true e = omega (arith, within)
    by false e = grind (arith, nat_tests, within)

-- ---- numbers

pub some-left : (none : Bool) (n m : ℕ) → none ≡ (n == 0) → n ≡ m → not none ≡ nat_lt 0 m
some-left none n m e same = grind (arith, nat_tests)

-- the first octets of two parts, one after another
pub two-parts : (n k : ℕ) (front back items before between after : List ℕ)
    → front ++ back ≡ items → k ≡ min n (length front)
    → between ≡ before ++ take k front → after ≡ between ++ take (n - k) back
    → after ≡ before ++ take n items
two-parts n k front back items before between after whole k-is first second =
    second
    ∙ ap (λ (os : List ℕ). os ++ take (n - k) back) first
    ∙ append_assoc before (take k front) (take (n - k) back)
    ∙ ap (λ (os : List ℕ). before ++ os) (parts ∙ ap (take n) whole)
  where
    short : n ≤ length front → take k front ++ take (n - k) back ≡ take n (front ++ back)
    short e =
        let same : k ≡ n = omega (arith, k-is) in
        let none : n - k ≡ 0 = omega (arith, same) in
        ap (λ (m : ℕ). take k front ++ take m back) none
        ∙ append-nil (take k front)
        ∙ ap (λ (m : ℕ). take m front) same
        ∙ sym (take-append-le n front back e)

    long : length front ≤ n → take k front ++ take (n - k) back ≡ take n (front ++ back)
    long e =
        let same : k ≡ length front = omega (arith, k-is) in
        let sum : length front + (n - k) ≡ n = omega (arith, same, e) in
        ap (λ (os : List ℕ). os ++ take (n - k) back) (take_all k front (omega (arith, same)))
        ∙ sym (take-append-add front back (n - k))
        ∙ ap (λ (m : ℕ). take m (front ++ back)) sum

    parts : take k front ++ take (n - k) back ≡ take n (front ++ back)
    parts = by (nat_lt n (length front)) refl
      where
        less : nat_lt n (length front) ≡ true → n ≤ length front
        less e = grind (arith, nat_tests)

        not-less : nat_lt n (length front) ≡ false → length front ≤ n
        not-less e = grind (arith, nat_tests)

        by : (b : Bool) → nat_lt n (length front) ≡ b
            → take k front ++ take (n - k) back ≡ take n (front ++ back)
        by true e = short (less e)
        by false e = long (not-less e)
