-- The entries of a body, one after another.
use Rattle.std.proofs.Common.{◌≡◌, ℕ, ◌+◌, ◌-◌, ◌<◌, ◌≤◌, true, false, ◌==◌, List, [], ◌∷◌, ◌++◌, length, take, drop, inl, inr, refl, sym, ap, ◌∙◌, arith, subst, eqb-true, append_assoc, length-take-le, length-drop, drop-drop}
use Rattle.std.proofs.lemmas.Bool.{cases_Bool}
use Rattle.std.proofs.lemmas.List.{take_all, drop_all}
use Rattle.std.proofs.Math.Seq.{take-append_seam, drop-append_seam}
use Rattle.std.specs.List.{filter, flat_map, AllByRecursion, slice_range}
use Rattle.prof_raw.specs.Entries.{line_end, pieces_of, has_some, entries_of, body_of, HasNoLineEnd, IsEntry, joined}
use Rattle.prof_raw.specs.Walk.{begins_with_end, piece_len}
use Rattle.prof_raw.proofs.PieceLemmas.{first_of, others_of, pieces-end, pieces-plain, first-piece, other-pieces, len-within, len-some, len-stops, len-whole, len-before, no_end_in_none, no_end_dropped, no_end_before, left_of, right_of}

-- ---- the first entry

has-some : (octets : List ℕ) → 0 < length octets → has_some octets ≡ true
has-some [] some = absurd (omega arith)
has-some (octet ∷ octets) some = refl

by_first : (pieces : List (List ℕ)) → filter has_some pieces ≡ filter has_some (first_of pieces ∷ others_of pieces)
by_first [] = refl
by_first (piece ∷ pieces) = refl

some_first : (piece : List ℕ) (pieces : List (List ℕ)) → 0 < length piece → filter has_some (piece ∷ pieces) ≡ piece ∷ filter has_some pieces
some_first piece pieces some = rw (has-some piece some) refl

others-only : (body : List ℕ) → piece_len body ≡ 0 → entries_of body ≡ filter has_some (others_of (pieces_of body))
others-only body none =
    by_first (pieces_of body) ∙ ap (λ piece. filter has_some (piece ∷ others_of (pieces_of body))) (first-piece body ∙ ap (λ n. take n body) none)

pub entry-first : (body : List ℕ) → 0 < piece_len body
    → entries_of body ≡ take (piece_len body) body ∷ entries_of (drop (piece_len body) body)
entry-first body some =
    let count : 0 < length (take (piece_len body) body) = omega (arith, length-take-le (piece_len body) body (len-within body)) in
    by_first (pieces_of body)
    ∙ ap (λ piece. filter has_some (piece ∷ others_of (pieces_of body))) (first-piece body)
    ∙ some_first (take (piece_len body) body) (others_of (pieces_of body)) count
    ∙ ap (λ pieces. take (piece_len body) body ∷ filter has_some pieces) (other-pieces body)
    ∙ ap (λ more. take (piece_len body) body ∷ more) (sym (others-only (drop (piece_len body) body) (len-stops body)))

-- a CR LF at the beginning
end_skipped : (rest : List ℕ) → entries_of (13 ∷ 10 ∷ rest) ≡ entries_of rest
end_skipped rest =
    ap (filter has_some) (pieces-end 13 (10 ∷ rest) refl ∙ ap (λ pieces. [] ∷ drop 1 (first_of pieces) ∷ others_of pieces) (pieces-plain 10 rest refl))
    ∙ sym (by_first (pieces_of rest))

pub entry-before : (entry rest : List ℕ) → HasNoLineEnd entry → 0 < length entry → entries_of (entry ++ 13 ∷ 10 ∷ rest) ≡ entry ∷ entries_of rest
entry-before entry rest none some =
    let len = len-before entry rest none in
    entry-first (entry ++ 13 ∷ 10 ∷ rest) (omega (arith, len))
    ∙ ap (λ n. take n (entry ++ 13 ∷ 10 ∷ rest) ∷ entries_of (drop n (entry ++ 13 ∷ 10 ∷ rest))) len
    ∙ ap (λ x. x ∷ entries_of (drop (length entry) (entry ++ 13 ∷ 10 ∷ rest))) (take-append_seam entry (13 ∷ 10 ∷ rest))
    ∙ ap (λ x. entry ∷ entries_of x) (drop-append_seam entry (13 ∷ 10 ∷ rest))
    ∙ ap (λ more. entry ∷ more) (end_skipped rest)

-- ---- what is written is read

lines-read : (list : List (List ℕ)) → AllByRecursion IsEntry list → entries_of (flat_map (λ entry. entry ++ line_end) list) ≡ list
lines-read [] each = refl
lines-read (entry ∷ list) each =
    ap entries_of (append_assoc entry line_end (flat_map (λ e. e ++ line_end) list))
    ∙ entry-before entry (flat_map (λ e. e ++ line_end) list) each.0.one_line each.0.some
    ∙ ap (λ more. entry ∷ more) (lines-read list each.1)

pub after_header-read : (list : List (List ℕ)) → AllByRecursion IsEntry list → entries_of (drop 2 (body_of list)) ≡ list
after_header-read list each = lines-read list each

pub body-read : (list : List (List ℕ)) → AllByRecursion IsEntry list → entries_of (body_of list) ≡ list
body-read list each = end_skipped (flat_map (λ entry. entry ++ line_end) list) ∙ lines-read list each

-- ---- what is read can be written

first-each : (pieces : List (List ℕ)) → AllByRecursion HasNoLineEnd pieces → HasNoLineEnd (first_of pieces) × AllByRecursion HasNoLineEnd (others_of pieces)
first-each [] each = (no_end_in_none, tt)
first-each (piece ∷ pieces) each = each

pub pieces-each : (body : List ℕ) → AllByRecursion HasNoLineEnd (pieces_of body)
pieces-each [] = tt
pieces-each (octet ∷ octets) = elim (cases_Bool (begins_with_end (octet ∷ octets))) as (λ _. AllByRecursion HasNoLineEnd (pieces_of (octet ∷ octets))) [
  | inl is ↦
      let before = first-each (pieces_of octets) (pieces-each octets) in
      subst (λ (ps : List (List ℕ)). AllByRecursion HasNoLineEnd ps) (sym (pieces-end octet octets is))
      (no_end_in_none, (no_end_dropped (first_of (pieces_of octets)) before.0, before.1))
  | inr is ↦
      let before = first-each (pieces_of octets) (pieces-each octets) in
      subst (λ (ps : List (List ℕ)). AllByRecursion HasNoLineEnd ps) (sym (pieces-plain octet octets is))
      (no_end_before octet octets is before.0, before.1)
]

some_are_entries : (pieces : List (List ℕ)) → AllByRecursion HasNoLineEnd pieces → AllByRecursion IsEntry (filter has_some pieces)
some_are_entries [] each = tt
some_are_entries ([] ∷ pieces) each = some_are_entries pieces each.1
some_are_entries ((octet ∷ octets) ∷ pieces) each =
    (record { some = omega arith; one_line = each.0 }, some_are_entries pieces each.1)

pub entries-each : (body : List ℕ) → AllByRecursion IsEntry (entries_of body)
entries-each body = some_are_entries (pieces_of body) (pieces-each body)

-- ---- however a body is cut

last-piece : (piece : List ℕ) → HasNoLineEnd piece → entries_of piece ≡ filter has_some (piece ∷ [])
last-piece [] none = refl
last-piece (octet ∷ octets) none =
    let len = len-whole (octet ∷ octets) none in
    entry-first (octet ∷ octets) (omega (arith, len))
    ∙ ap (λ n. take n (octet ∷ octets) ∷ entries_of (drop n (octet ∷ octets))) len
    ∙ ap (λ x. x ∷ entries_of (drop (length (octet ∷ octets)) (octet ∷ octets))) (take_all (length (octet ∷ octets)) (octet ∷ octets) (omega arith))
    ∙ ap (λ x. (octet ∷ octets) ∷ entries_of x) (drop_all (length (octet ∷ octets)) (octet ∷ octets) (omega arith))

pub joined-entries : (pieces : List (List ℕ)) → AllByRecursion HasNoLineEnd pieces → entries_of (joined pieces) ≡ filter has_some pieces
joined-entries [] each = refl
joined-entries (piece ∷ []) each = last-piece piece each.0
joined-entries ([] ∷ next ∷ pieces) each = end_skipped (joined (next ∷ pieces)) ∙ joined-entries (next ∷ pieces) each.1
joined-entries ((octet ∷ octets) ∷ next ∷ pieces) each =
    entry-before (octet ∷ octets) (joined (next ∷ pieces)) each.0 (omega arith)
    ∙ ap (λ more. (octet ∷ octets) ∷ more) (joined-entries (next ∷ pieces) each.1)

-- ---- at a place in a body

skipped : (octets : List ℕ) → begins_with_end octets ≡ true → entries_of octets ≡ entries_of (drop 2 octets)
skipped [] is = absurd (cc is)
skipped (octet ∷ []) is = absurd (cc (right_of (octet == 13) false is))
skipped (octet ∷ next ∷ octets) is =
    let cr : octet ≡ 13 = eqb-true octet 13 (left_of _ _ is) in
    let lf : next ≡ 10 = eqb-true next 10 (right_of _ _ is) in
    ap (λ x. entries_of (x ∷ next ∷ octets)) cr ∙ ap (λ x. entries_of (13 ∷ x ∷ octets)) lf ∙ end_skipped octets

pub skipped-at : (body : List ℕ) (at : ℕ) → begins_with_end (drop at body) ≡ true → entries_of (drop (at + 2) body) ≡ entries_of (drop at body)
skipped-at body at is = sym (skipped (drop at body) is ∙ ap entries_of (drop-drop 2 at body))

two-within : (octets : List ℕ) → begins_with_end octets ≡ true → 2 ≤ length octets
two-within [] is = absurd (cc is)
two-within (octet ∷ []) is = absurd (cc (right_of (octet == 13) false is))
two-within (octet ∷ next ∷ octets) is = omega arith

pub end-within : (body : List ℕ) (at : ℕ) → begins_with_end (drop at body) ≡ true → at + 2 ≤ length body
end-within body at is = omega (arith, two-within (drop at body) is, length-drop at body)

pub entry-at : (body : List ℕ) (start end : ℕ) → start < length body → begins_with_end (drop start body) ≡ false → end ≡ start + piece_len (drop start body)
    → entries_of (drop start body) ≡ slice_range body start end ∷ entries_of (drop end body)
entry-at body start end within plain is =
    let left = length-drop start body in
    let some : 0 < piece_len (drop start body) = len-some (drop start body) (omega (arith, left)) plain in
    let count : piece_len (drop start body) ≡ end - start = omega arith in
    entry-first (drop start body) some
    ∙ ap (λ rest. take (piece_len (drop start body)) (drop start body) ∷ entries_of rest) (drop-drop (piece_len (drop start body)) start body ∙ ap (λ n. drop n body) (sym is))
    ∙ ap (λ n. take n (drop start body) ∷ entries_of (drop end body)) count

pub piece-place : (body : List ℕ) (start end : ℕ) → start < length body → begins_with_end (drop start body) ≡ false → end ≡ start + piece_len (drop start body)
    → (start < end) × (end ≤ length body)
piece-place body start end within plain is =
    let left = length-drop start body in
    let some : 0 < piece_len (drop start body) = len-some (drop start body) (omega (arith, left)) plain in
    let fits = len-within (drop start body) in
    (omega arith, omega arith)
