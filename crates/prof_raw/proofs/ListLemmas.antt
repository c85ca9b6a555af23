-- Entries that lie one after another.
use Rattle.std.proofs.Common.{◌≡◌, ℕ, zero, suc, ◌+◌, ◌-◌, ◌*◌, ◌<◌, ◌≤◌, List, [], ◌∷◌, ◌++◌, length, take, drop, get_or, Some, None, refl, sym, ap, ap₂, subst₂, ◌∙◌, arith, length-append, length-drop, length-take-le}
use Rattle.std.proofs.lemmas.List.{take-append-le, drop-append-le, take_all, flat_map_more}
use Rattle.std.proofs.Math.Seq.{drop-append_seam}
use Rattle.std.specs.List.{slice_get, slice_range, flat_map}
use Rattle.prof_raw.specs.Entries.{line_end, body_of}
use Rattle.prof_raw.specs.Listed.{cut, Rises}

pub length-cut : (at : ℕ) (octets ends : List ℕ) → length (cut at octets ends) ≡ length ends
length-cut at octets [] = refl
length-cut at octets (end ∷ ends) = ap suc (length-cut end octets ends)

pub rises_over : (at : ℕ) (ends : List ℕ) (last : ℕ) → Rises at ends last → at ≤ last
rises_over at [] last rises = omega arith
rises_over at (end ∷ ends) last rises = omega (arith, rises.0, rises_over end ends last rises.1)

-- ---- one more

range-append : (octets more : List ℕ) (at end : ℕ) → at ≤ end → end ≤ length octets → slice_range (octets ++ more) at end ≡ slice_range octets at end
range-append octets more at end ordered within =
    ap (take (end - at)) (drop-append-le at octets more (omega arith))
    ∙ take-append-le (end - at) (drop at octets) more (omega (arith, length-drop at octets))

last-range : (octets entry : List ℕ) (at end : ℕ) → at ≡ length octets → end ≡ length octets + length entry → slice_range (octets ++ entry) at end ≡ entry
last-range octets entry at end at_end is =
    ap (λ n. take (end - at) (drop n (octets ++ entry))) at_end
    ∙ ap (take (end - at)) (drop-append_seam octets entry)
    ∙ take_all (end - at) entry (omega arith)

pub cut-push : (at : ℕ) (octets entry ends : List ℕ) (end : ℕ) → Rises at ends (length octets) → end ≡ length octets + length entry
    → cut at (octets ++ entry) (ends ++ end ∷ []) ≡ cut at octets ends ++ entry ∷ []
cut-push at octets entry [] end rises is = ap (λ x. x ∷ []) (last-range octets entry at end rises is)
cut-push at octets entry (next ∷ ends) end rises is =
    ap₂ (λ x xs. x ∷ xs) (range-append octets entry at next rises.0 (rises_over next ends (length octets) rises.1))
    (cut-push next octets entry ends end rises.1 is)

pub rises-push : (at : ℕ) (ends : List ℕ) (last end : ℕ) → Rises at ends last → last ≤ end → Rises at (ends ++ end ∷ []) end
rises-push at [] last end rises more = (omega arith, refl)
rises-push at (next ∷ ends) last end rises more = (rises.0, rises-push next ends last end rises.1 more)

-- ---- the entry at a place

pub cut-get : (at : ℕ) (octets ends : List ℕ) (i : ℕ) → i < length ends
    → slice_get (cut at octets ends) i ≡ Some (slice_range octets (get_or (at ∷ ends) i 0) (get_or ends i 0))
cut-get at octets [] i within = absurd (omega arith)
cut-get at octets (end ∷ ends) zero within = refl
cut-get at octets (end ∷ ends) (suc i) within = cut-get end octets ends i (omega arith)

pub rises-get : (at : ℕ) (ends : List ℕ) (last i : ℕ) → Rises at ends last → i < length ends
    → (get_or (at ∷ ends) i 0 ≤ get_or ends i 0) × (get_or ends i 0 ≤ last)
rises-get at [] last i rises within = absurd (omega arith)
rises-get at (end ∷ ends) last zero rises within = (rises.0, rises_over end ends last rises.1)
rises-get at (end ∷ ends) last (suc i) rises within = rises-get end ends last i rises.1 (omega arith)

-- ---- how many octets the body has

length-range : (octets : List ℕ) (at end : ℕ) → at ≤ end → end ≤ length octets → length (slice_range octets at end) ≡ end - at
length-range octets at end ordered within = length-take-le (end - at) (drop at octets) (omega (arith, length-drop at octets))

length-lines : (at : ℕ) (octets ends : List ℕ) → Rises at ends (length octets)
    → at + length (flat_map (λ entry. entry ++ line_end) (cut at octets ends)) ≡ length octets + 2 * length ends
length-lines at octets [] rises = omega (arith, rises)
length-lines at octets (end ∷ ends) rises =
    let entry = slice_range octets at end in
    omega (
      arith,
      rises.0,
      rises_over end ends (length octets) rises.1,
      length-range octets at end rises.0 (rises_over end ends (length octets) rises.1),
      length-append (entry ++ line_end) (flat_map (λ e. e ++ line_end) (cut end octets ends)),
      length-append entry line_end,
      length-lines end octets ends rises.1,
    )

pub length-body : (octets ends : List ℕ) → Rises 0 ends (length octets) → length (body_of (cut 0 octets ends)) ≡ 2 + length octets + 2 * length ends
length-body octets ends rises = omega (arith, length-lines 0 octets ends rises)

-- ---- a list that grew, and its elements

pub pushed-rises : (octets entry ends new new_ends : List ℕ) (end : ℕ) → Rises 0 ends (length octets) → new ≡ octets ++ entry
    → new_ends ≡ ends ++ end ∷ [] → end ≡ length new → Rises 0 new_ends (length new)
pushed-rises octets entry ends new new_ends end rises grown pushed is =
    let more : length octets ≤ end = omega (arith, ap length grown, length-append octets entry) in
    subst₂ (λ (es : List ℕ) (n : ℕ). Rises 0 es n) (sym pushed) is (rises-push 0 ends (length octets) end rises more)

pub pushed-cut : (octets entry ends new new_ends : List ℕ) (end : ℕ) → Rises 0 ends (length octets) → new ≡ octets ++ entry
    → new_ends ≡ ends ++ end ∷ [] → end ≡ length new → cut 0 new new_ends ≡ cut 0 octets ends ++ entry ∷ []
pushed-cut octets entry ends new new_ends end rises grown pushed is =
    ap₂ (cut 0) grown pushed ∙ cut-push 0 octets entry ends end rises (is ∙ ap length grown ∙ length-append octets entry)

pub past-get : {A : Type 0} (xs : List A) (i : ℕ) → length xs ≤ i → slice_get xs i ≡ None
past-get [] i past = refl
past-get (x ∷ xs) zero past = absurd (omega arith)
past-get (x ∷ xs) (suc i) past = past-get xs i (omega arith)

pub drop-get : {A : Type 0} (xs : List A) (i : ℕ) (x : A) → slice_get xs i ≡ Some x → drop i xs ≡ x ∷ drop (i + 1) xs
drop-get [] i x is = absurd (cc is)
drop-get (y ∷ ys) zero x is =
    let same : y ≡ x = cc is in
    ap (λ z. z ∷ ys) same
drop-get (y ∷ ys) (suc i) x is =
    let e : suc i + 1 ≡ suc (i + 1) = omega arith in
    drop-get ys i x is ∙ ap (λ n. x ∷ drop n (y ∷ ys)) (sym e)

pub take-get : {A : Type 0} (xs : List A) (i : ℕ) (x : A) → slice_get xs i ≡ Some x → take (i + 1) xs ≡ take i xs ++ x ∷ []
take-get [] i x is = absurd (cc is)
take-get (y ∷ ys) zero x is =
    let same : y ≡ x = cc is in
    ap (λ z. z ∷ []) same
take-get (y ∷ ys) (suc i) x is =
    let e : suc i + 1 ≡ suc (i + 1) = omega arith in
    ap (λ n. take n (y ∷ ys)) e ∙ ap (λ zs. y ∷ zs) (take-get ys i x is)

-- ---- lines that are written one after another

pub line-room : (list : List (List ℕ)) (i : ℕ) (entry : List ℕ) → slice_get list i ≡ Some entry
    → length (flat_map (λ e. e ++ line_end) (drop i list)) ≡ (length entry + 2) + length (flat_map (λ e. e ++ line_end) (drop (i + 1) list))
line-room list i entry is =
    ap (λ rest. length (flat_map (λ e. e ++ line_end) rest)) (drop-get list i entry is)
    ∙ length-append (entry ++ line_end) (flat_map (λ e. e ++ line_end) (drop (i + 1) list))
    ∙ ap (λ n. n + length (flat_map (λ e. e ++ line_end) (drop (i + 1) list))) (length-append entry line_end)

pub line-more : (before out new entry : List ℕ) (list : List (List ℕ)) (i : ℕ) → slice_get list i ≡ Some entry
    → out ≡ before ++ flat_map (λ e. e ++ line_end) (take i list) → new ≡ out ++ (entry ++ line_end)
    → new ≡ before ++ flat_map (λ e. e ++ line_end) (take (i + 1) list)
line-more before out new entry list i is so_far more =
    more ∙ ap (λ o. o ++ (entry ++ line_end)) so_far
    ∙ flat_map_more (λ e. e ++ line_end) before (take i list) entry
    ∙ ap (λ es. before ++ flat_map (λ e. e ++ line_end) es) (sym (take-get list i entry is))
