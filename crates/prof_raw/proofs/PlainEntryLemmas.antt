-- The lines of a body whose one entry is written as it is.
use Rattle.std.proofs.Common.{◌≡◌, if◌then◌else◌, ℕ, zero, suc, ◌+◌, ◌<◌, ◌≤◌, nat_lt, Bool, true, false, ◌||◌, ◌&&◌, ◌==◌, List, [], ◌∷◌, ◌++◌, length, take, drop, get_or, refl, sym, ap, ◌∙◌, arith, append-nil, length-append, length-drop, length-take-le}
use Rattle.std.proofs.lemmas.Bool.Decides.{nat_tests}
use Rattle.std.proofs.lemmas.List.{take-append-drop, take_all, drop_all, get_or-take, get_or_append_left}
use Rattle.std.proofs.Math.Seq.{drop-append_seam, get_or-append_seam}
use Rattle.memchr.specs.Find.{is_byte3}
use Rattle.prof_raw.specs.Entries.{entries_of, line_end}
use Rattle.prof_raw.specs.Line.{bang_mark, octet_written, octets_written, line_of, lines_of, IsPlain, IsPlainBody}
use Rattle.prof_raw.specs.Walk.{begins_with_end, piece_len}
use Rattle.prof_raw.specs.declared.line.TheConstants.{ENTRY_MAX}
use Rattle.prof_raw.proofs.PieceLemmas.{len-here}
use Rattle.prof_raw.proofs.EntryLemmas.{entry-first, skipped-at}
use Rattle.prof_raw.proofs.PlainLemmas.{no-cr, plain-written}

both : (a b : Bool) → (a && b) ≡ true → (a ≡ true) × (b ≡ true)
both true b is = (refl, is)
both false b is = absurd (cc is)

second-of : (a b c : Bool) → (a || b || c) ≡ false → b ≡ false
second-of true b c none = cc
second-of false true c none = cc
second-of false false c none = refl

bang-none : (octets : List ℕ) → (get_or octets 0 0 == 33) ≡ false → bang_mark octets ≡ []
bang-none [] is = refl
bang-none (octet ∷ octets) is = rw is refl

-- a line without marks
line-plain : (entry : List ℕ) → length entry ≤ ENTRY_MAX → (get_or entry 0 0 == 33) ≡ false → octets_written entry ≡ entry
    → line_of entry ≡ entry ++ 10 ∷ []
line-plain entry short bang plain =
    let whole : take ENTRY_MAX entry ≡ entry = take_all ENTRY_MAX entry short in
    let few : nat_lt ENTRY_MAX (length entry) ≡ false = grind (arith, nat_tests, short) in
    rw (bang-none entry bang, whole, plain, few) (ap (λ x. x ++ 10 ∷ []) (append-nil entry))

-- two octets that begin as a line end are one
is-line-end : (octets : List ℕ) → begins_with_end octets ≡ true → length octets ≡ 2 → octets ≡ line_end
is-line-end [] begins two = absurd (cc begins)
is-line-end (a ∷ []) begins two = absurd (omega (arith, two))
is-line-end (a ∷ b ∷ c ∷ octets) begins two = absurd (omega (arith, two))
is-line-end (a ∷ b ∷ []) begins two =
    let parts = both (a == 13) (b == 10) begins in
    let first : a ≡ 13 = grind (arith, nat_tests, parts.0) in
    let second : b ≡ 10 = grind (arith, nat_tests, parts.1) in
    rw (first, second) refl

module _ (body : List ℕ) (end : ℕ) (some : 0 < end) (short : end ≤ ENTRY_MAX) (whole : length body ≡ end + 2)
    (none : (k : ℕ) → k < end → is_byte3 10 13 92 (get_or body k 0) ≡ false) (ends : begins_with_end (drop end body) ≡ true)
    (bang : (get_or body 0 0 == 33) ≡ false) where
  piece : piece_len body ≡ end
  piece =
      let goes = no-cr body end (omega arith)
      (λ k below. second-of (get_or body k 0 == 10) (get_or body k 0 == 13) (get_or body k 0 == 92) (none k below)) in
      let here = len-here (drop end body) ends in
      omega (arith, goes, here)

  one : entries_of body ≡ take end body ∷ []
  one =
      entry-first body (omega (arith, piece))
      ∙ ap (λ n. take n body ∷ entries_of (drop n body)) piece
      ∙ ap (λ rest. take end body ∷ rest) (sym (skipped-at body end ends) ∙ ap entries_of (drop_all (end + 2) body (omega arith)))

  first : (get_or (take end body) 0 0 == 33) ≡ false
  first = ap (λ x. x == 33) (get_or-take end body 0 0 some) ∙ bang

  is_plain : IsPlain (take end body)
  is_plain =
      let len = length-take-le end body (omega arith) in
      record {
        some = omega (arith, len);
        short = omega (arith, len);
        unmarked = bang-none (take end body) first;
        as_it_is = plain-written body end none;
      }

  -- it is plain
  pub plain-body : IsPlainBody (take end body) body
  plain-body =
      let left = length-drop end body in
      let rest = is-line-end (drop end body) ends (omega (arith, left, whole)) in
      record {
        plain = is_plain;
        ended = sym (take-append-drop end body) ∙ ap (λ octets. take end body ++ octets) rest;
      }

  -- its line
  pub plain-lines : lines_of (entries_of body) ≡ take end body ++ 10 ∷ []
  plain-lines =
      let len = length-take-le end body (omega arith) in
      ap lines_of one
      ∙ append-nil (line_of (take end body))
      ∙ line-plain (take end body) (omega (arith, len)) first (plain-written body end none)

-- ---- where one stands alone

-- an octet that isn't written as it is has two in its place
two-for : (x : ℕ) (a b c : Bool) → (x == 10) ≡ a → (x == 13) ≡ b → (x == 92) ≡ c → (a || b || c) ≡ true → length (octet_written x) ≡ 2
two-for x true b c is_a is_b is_c some = rw is_a refl
two-for x false true c is_a is_b is_c some = rw (is_a, is_b) refl
two-for x false false true is_a is_b is_c some = rw (is_a, is_b, is_c) refl
two-for x false false false is_a is_b is_c some = absurd (cc some)

one-for : (x : ℕ) (a b c : Bool) → (x == 10) ≡ a → (x == 13) ≡ b → (x == 92) ≡ c → 1 ≤ length (octet_written x)
one-for x true b c is_a is_b is_c = rw is_a (omega arith)
one-for x false true c is_a is_b is_c = rw (is_a, is_b) (omega arith)
one-for x false false true is_a is_b is_c = rw (is_a, is_b, is_c) (omega arith)
one-for x false false false is_a is_b is_c = rw (is_a, is_b, is_c) (omega arith)

not-fewer : (octets : List ℕ) → length octets ≤ length (octets_written octets)
not-fewer [] = omega arith
not-fewer (x ∷ octets) =
    let rest = not-fewer octets in
    let first = one-for x (x == 10) (x == 13) (x == 92) refl refl refl in
    let both = length-append (octet_written x) (octets_written octets) in
    omega (arith, rest, first, both)

-- in octets that are written as they are none wants two
pub none-special : (octets : List ℕ) → length (octets_written octets) ≡ length octets → (k : ℕ) → k < length octets
    → is_byte3 10 13 92 (get_or octets k 0) ≡ false
none-special [] same k below = absurd (omega (arith, below))
none-special (x ∷ octets) same zero below =
    by_test (x == 10 || x == 13 || x == 92) refl
  where
    by_test : (b : Bool) → (x == 10 || x == 13 || x == 92) ≡ b → (x == 10 || x == 13 || x == 92) ≡ false
    by_test true is =
        let two = two-for x (x == 10) (x == 13) (x == 92) refl refl refl is in
        let rest = not-fewer octets in
        let both = length-append (octet_written x) (octets_written octets) in
        absurd (omega (arith, same, two, rest, both))
    by_test false is = is
none-special (x ∷ octets) same (suc k) below =
    let rest = not-fewer octets in
    let first = one-for x (x == 10) (x == 13) (x == 92) refl refl refl in
    let both = length-append (octet_written x) (octets_written octets) in
    none-special octets (omega (arith, same, first, rest, both)) k (omega (arith, below))

module _ (entry body : List ℕ) (is : IsPlainBody entry body) where
  -- it is as long as this
  pub plain-len : length body ≡ length entry + 2
  plain-len = ap length is.ended ∙ length-append entry line_end

  -- the search ends at its end
  pub plain-ends : (end : ℕ) → ((k : ℕ) → k < end → is_byte3 10 13 92 (get_or body k 0) ≡ false)
      → (end < length body → is_byte3 10 13 92 (get_or body end 0) ≡ true) → end ≡ length entry
  plain-ends end none stops = by_order (nat_lt end (length entry)) refl (nat_lt (length entry) end) refl
    where
      here : is_byte3 10 13 92 (get_or body (length entry) 0) ≡ true
      here = ap (λ (b : List ℕ). is_byte3 10 13 92 (get_or b (length entry) 0)) is.ended ∙ ap (is_byte3 10 13 92) (get_or-append_seam entry 13 (10 ∷ []) 0)

      by_order : (a : Bool) → nat_lt end (length entry) ≡ a → (b : Bool) → nat_lt (length entry) end ≡ b → end ≡ length entry
      by_order true below b is_b =
          let under : end < length entry = grind (arith, nat_tests, below) in
          let plain = none-special entry (ap length is.plain.as_it_is) end under in
          let same : is_byte3 10 13 92 (get_or body end 0) ≡ false =
          ap (λ (b : List ℕ). is_byte3 10 13 92 (get_or b end 0)) is.ended
          ∙ ap (is_byte3 10 13 92) (get_or_append_left entry line_end 0 end under) ∙ plain in
          absurd (cc (same, stops (omega (arith, under, plain-len))))
      by_order false below true above =
          let over : length entry < end = grind (arith, nat_tests, above) in
          absurd (cc (here, none (length entry) over))
      by_order false below false above = grind (arith, nat_tests, below, above)

  -- it begins with no `!`
  pub plain-first : (get_or body 0 0 == 33) ≡ false
  plain-first =
      ap (λ (b : List ℕ). get_or b 0 0 == 33) is.ended
      ∙ ap (λ x. x == 33) (get_or_append_left entry line_end 0 0 is.plain.some)
      ∙ none-first entry is.plain.some is.plain.unmarked
    where
      none-first : (octets : List ℕ) → 0 < length octets → bang_mark octets ≡ [] → (get_or octets 0 0 == 33) ≡ false
      none-first [] some unmarked = absurd (omega (arith, some))
      none-first (x ∷ octets) some unmarked = by_mark (x == 33) refl
        where
          by_mark : (b : Bool) → (x == 33) ≡ b → (x == 33) ≡ false
          by_mark true marked = absurd (cc (sym (ap (λ (b : Bool). if b then 92 ∷ [] else []) marked) ∙ unmarked))
          by_mark false is_none = is_none

  -- its line end stands after it
  pub plain-line-end : begins_with_end (drop (length entry) body) ≡ true
  plain-line-end = ap (λ (b : List ℕ). begins_with_end (drop (length entry) b)) is.ended ∙ ap begins_with_end (drop-append_seam entry line_end)
