-- The items of one side as its octets spell them, and what the next octet adds.
use Rattle.std.proofs.Common.{◌≡◌, ◌⊎◌, inl, inr, ℕ, List, [], ◌∷◌, ◌++◌, length, replicate, Option, Some, None, refl, sym, ap, ◌∙◌, arith, append_assoc, append-nil, length-append}
use Rattle.std.specs.List.{flat_map, AllByRecursion}
use Rattle.std.proofs.lemmas.List.{length-replicate, append_cancel_left}
use Rattle.beep_frame.specs.declared.head.Head.{Head}
use Rattle.beep_frame.specs.declared.seq.Seq.{Seq}
use Rattle.beep_frame.specs.Frame.{Frame, framed, seq_frame, IsHead, IsFrame, IsSeq}
use Rattle.beep_frame.specs.Spelling.{spelling, header, trailer}
use Rattle.beep_frame.specs.Line.{at_head, at_seq, line_start}
use Rattle.beep_frame.specs.Stream.{IsUnfinished}
use Rattle.beep_frame.proofs.AliveLemmas.{unfinished_line}
use Rattle.beep_frame.proofs.DeadLemmas.{no_frame_alone}
use Rattle.beep_frame.proofs.LawLemmas.{same_head}
use Rattle.beep_frame.proofs.StreamLemmas.{same_frame, same_line, SameLine, tail_of, parted}
use Rattle.beep_history.specs.declared.journal.Side.{Side}
use Rattle.beep_history.specs.Journal.{Item, began, passed}
use Rattle.beep_two_ends.specs.Octets.{frame_items, items_of, read_items, begun_items}
use Rattle.beep_two_ends.proofs.OctetsLemmas.{no_header}

-- ---- octets

-- a frame that begins with a header is of that header
begins_with : (head : Head) (more : List ℕ) (g : Frame) (y : List ℕ) → IsHead head → IsFrame g → header head ++ more ≡ spelling g ++ y
    → (payload : List ℕ) × (g ≡ framed head payload)
begins_with head more g y h w e =
    begins_by g w (same_line (framed head (replicate head.size 0)) g more (tail_of g ++ y) (h, length-replicate head.size 0) w (e ∙ sym (parted g y)))
  where
    begins_by : (g : Frame) → IsFrame g → SameLine (framed head (replicate head.size 0)) g more (tail_of g ++ y) → (payload : List ℕ) × (g ≡ framed head payload)
    begins_by (framed k q) w s = let e : at_head head ≡ at_head k = s.end in let same : k ≡ head = cc in (q, ap (λ (x : Head). framed x q) same)
    begins_by (seq_frame k) w s = let e : at_head head ≡ at_seq k = s.end in absurd (cc)

no-empty : (ys : List ℕ) (b : ℕ) → ys ++ b ∷ [] ≡ [] → ⊥
no-empty [] b e = cc
no-empty (y ∷ ys) b e = cc

last-off : (xs ys : List ℕ) (a b : ℕ) → xs ++ a ∷ [] ≡ ys ++ b ∷ [] → xs ≡ ys
last-off [] [] a b e = refl
last-off [] (y ∷ ys) a b e = let rest : [] ≡ ys ++ b ∷ [] = cc in absurd (no-empty ys b (sym rest))
last-off (x ∷ xs) [] a b e = let rest : xs ++ a ∷ [] ≡ [] = cc in absurd (no-empty xs a rest)
last-off (x ∷ xs) (y ∷ ys) a b e =
    let same : x ≡ y = cc in
    let rest : xs ++ a ∷ [] ≡ ys ++ b ∷ [] = cc in
    ap (λ (z : ℕ). z ∷ xs) same ∙ ap (λ (zs : List ℕ). y ∷ zs) (last-off xs ys a b rest)

parts : (z : List ℕ) → (z ≡ []) ⊎ ((most : List ℕ) × (last : ℕ) × (z ≡ most ++ last ∷ []))
parts [] = inl refl
parts (x ∷ z) = inr (by-parts (parts z))
  where
    by-parts : (z ≡ []) ⊎ ((most : List ℕ) × (last : ℕ) × (z ≡ most ++ last ∷ [])) → (most : List ℕ) × (last : ℕ) × (x ∷ z ≡ most ++ last ∷ [])
    by-parts (inl e) = ([], x, ap (λ (zs : List ℕ). x ∷ zs) e)
    by-parts (inr p) = (x ∷ p.0, p.1, ap (λ (zs : List ℕ). x ∷ zs) p.2)

-- what begins these octets and the next one begins them already, or is all of them
begun-before : (x y z : List ℕ) (octet : ℕ) → x ++ octet ∷ [] ≡ y ++ z → (z ≡ []) ⊎ ((more : List ℕ) × (x ≡ y ++ more))
begun-before x y z octet e = by-parts (parts z)
  where
    by-parts : (z ≡ []) ⊎ ((most : List ℕ) × (last : ℕ) × (z ≡ most ++ last ∷ [])) → (z ≡ []) ⊎ ((more : List ℕ) × (x ≡ y ++ more))
    by-parts (inl f) = inl f
    by-parts (inr p) =
        inr (p.0, last-off x (y ++ p.0) octet p.1 (e ∙ ap (λ (zs : List ℕ). y ++ zs) p.2 ∙ sym (append_assoc y p.0 (p.1 ∷ []))))

-- ---- the header of a rest

abbrev pub InRest : Option Head → List ℕ → Type 0
InRest None rest = (head : Head) (more : List ℕ) → IsHead head → rest ≡ header head ++ more → ⊥
InRest (Some head) rest = IsHead head × (more : List ℕ) × (rest ≡ header head ++ more)

pub in_none : InRest None []
in_none = λ head more w e. no_header head more (sym e)

pub none_unfinished : IsUnfinished []
none_unfinished = unfinished_line [] line_start refl

pub goes_on_in : (o : Option Head) (rest : List ℕ) (octet : ℕ) → InRest o rest → ((head : Head) → IsHead head → rest ++ octet ∷ [] ≡ header head → ⊥) → InRest o (rest ++ octet ∷ [])
goes_on_in None rest octet n none = λ head more w e. by-parts head more w e (begun-before rest (header head) more octet e)
  where
    by-parts : (head : Head) (more : List ℕ) → IsHead head → rest ++ octet ∷ [] ≡ header head ++ more → (more ≡ []) ⊎ ((m : List ℕ) × (rest ≡ header head ++ m)) → ⊥
    by-parts head more w e (inl f) = none head w (e ∙ ap (λ (zs : List ℕ). header head ++ zs) f ∙ append-nil (header head))
    by-parts head more w e (inr p) = n head p.0 w p.1
goes_on_in (Some h) rest octet n none = (n.0, n.1 ++ octet ∷ [], ap (λ (zs : List ℕ). zs ++ octet ∷ []) n.2 ∙ append_assoc (header h) n.1 (octet ∷ []))

-- where a header ends none had begun
pub head_ends : (o : Option Head) (rest : List ℕ) (octet : ℕ) (head : Head) → InRest o rest → IsHead head → rest ++ octet ∷ [] ≡ header head → o ≡ None
head_ends None rest octet head n w e = refl
head_ends (Some h) rest octet head n w e =
    let whole : header h ++ (n.1 ++ octet ∷ []) ≡ header head ++ [] =
    sym (append_assoc (header h) n.1 (octet ∷ [])) ∙ ap (λ (zs : List ℕ). zs ++ octet ∷ []) (sym n.2) ∙ e ∙ sym (append-nil (header head)) in
    let same : h ≡ head = same_head h head (n.1 ++ octet ∷ []) [] n.0 w whole in
    absurd (no-empty n.1 octet (append_cancel_left (header h) (n.1 ++ octet ∷ []) [] (whole ∙ ap (λ (k : Head). header k ++ []) (sym same))))

-- where a frame ends its header had begun
pub frame_ends : (o : Option Head) (rest : List ℕ) (octet : ℕ) (head : Head) (payload : List ℕ) → InRest o rest → IsFrame (framed head payload)
    → rest ++ octet ∷ [] ≡ spelling (framed head payload) → o ≡ Some head
frame_ends None rest octet head payload n w e =
    absurd (by-parts (begun-before rest (header head) (payload ++ trailer) octet (e ∙ grouped (header head) payload trailer)))
  where
    grouped : (a b c : List ℕ) → a ++ b ++ c ≡ a ++ (b ++ c)
    grouped a b c = append_assoc a b c

    by-parts : (payload ++ trailer ≡ []) ⊎ ((m : List ℕ) × (rest ≡ header head ++ m)) → ⊥
    by-parts (inl f) = let n : length (payload ++ trailer) ≡ 0 = ap length f in absurd (omega (arith, n, length-append payload trailer))
    by-parts (inr p) = n head p.0 w.0 p.1
frame_ends (Some h) rest octet head payload n w e =
    let whole : header h ++ (n.1 ++ octet ∷ []) ≡ spelling (framed head payload) ++ [] =
    sym (append_assoc (header h) n.1 (octet ∷ [])) ∙ ap (λ (zs : List ℕ). zs ++ octet ∷ []) (sym n.2) ∙ e ∙ sym (append-nil (spelling (framed head payload))) in
    let b = begins_with h (n.1 ++ octet ∷ []) (framed head payload) [] n.0 w whole in
    of b.0 b.1
  where
    of : (q : List ℕ) → framed head payload ≡ framed h q → Some h ≡ Some head
    of q f = let same : head ≡ h = cc in ap (λ (k : Head). Some k) (sym same)

-- where a SEQ ends no header had begun
pub seq_ends_in : (o : Option Head) (rest : List ℕ) (octet : ℕ) (seq : Seq) → InRest o rest → IsSeq seq → rest ++ octet ∷ [] ≡ spelling (seq_frame seq) → o ≡ None
seq_ends_in None rest octet seq n w e = refl
seq_ends_in (Some h) rest octet seq n w e =
    let whole : header h ++ (n.1 ++ octet ∷ []) ≡ spelling (seq_frame seq) ++ [] =
    sym (append_assoc (header h) n.1 (octet ∷ [])) ∙ ap (λ (zs : List ℕ). zs ++ octet ∷ []) (sym n.2) ∙ e ∙ sym (append-nil (spelling (seq_frame seq))) in
    let b = begins_with h (n.1 ++ octet ∷ []) (seq_frame seq) [] n.0 w whole in
    absurd (of b.0 b.1)
  where
    of : (q : List ℕ) → seq_frame seq ≡ framed h q → ⊥
    of q f = cc

-- ---- frames in order

pub items-last : (frames : List Frame) (frame : Frame) → items_of (frames ++ frame ∷ []) ≡ frame_items frame ++ items_of frames
items-last [] frame = sym (append-nil (frame_items frame))
items-last (g ∷ frames) frame =
    ap (λ (xs : List Item). xs ++ frame_items g) (items-last frames frame) ∙ append_assoc (frame_items frame) (items_of frames) (frame_items g)

pub all-last : (frames : List Frame) (frame : Frame) → AllByRecursion IsFrame frames → IsFrame frame → AllByRecursion IsFrame (frames ++ frame ∷ [])
all-last [] frame each w = (w, tt)
all-last (g ∷ frames) frame each w = (each.0, all-last frames frame each.1 w)

-- the items that octets are are the first items of any octets that go on with them
pub in_order : (fs gs : List Frame) (r s more : List ℕ) (o p : Option Head) → AllByRecursion IsFrame fs → AllByRecursion IsFrame gs → IsUnfinished s
    → InRest o r → InRest p s → (flat_map spelling fs ++ r) ++ more ≡ flat_map spelling gs ++ s → (newer : List Item) × (read_items gs p ≡ newer ++ read_items fs o)
in_order [] gs r s more None p v w u n m e = (read_items gs p, sym (append-nil (read_items gs p)))
in_order [] [] r s more (Some h) p v w u n m e = by-head p m
  where
    from : s ≡ header h ++ (n.1 ++ more)
    from = sym e ∙ ap (λ (xs : List ℕ). xs ++ more) n.2 ∙ append_assoc (header h) n.1 more

    by-head : (p : Option Head) → InRest p s → (newer : List Item) × (read_items [] p ≡ newer ++ read_items [] (Some h))
    by-head None m = absurd (m h (n.1 ++ more) n.0 from)
    by-head (Some k) m =
        let same : h ≡ k = same_head h k (n.1 ++ more) m.1 n.0 m.0 (sym from ∙ m.2) in
        ([], ap (λ (x : Head). read_items [] (Some x)) (sym same))
in_order [] (g ∷ gs) r s more (Some h) p v w u n m e =
    let b = begins_with h (n.1 ++ more) g (flat_map spelling gs ++ s) n.0 w.0
    (sym (append_assoc (header h) n.1 more) ∙ ap (λ (xs : List ℕ). xs ++ more) (sym n.2) ∙ e ∙ append_assoc (spelling g) (flat_map spelling gs) s) in (
      begun_items p ++ (items_of gs ++ passed Side.Received h b.0 ∷ []),
      ap (λ (f : Frame). begun_items p ++ (items_of gs ++ frame_items f)) b.1
          ∙ grouped (begun_items p) (items_of gs) (passed Side.Received h b.0 ∷ []) (began Side.Received h ∷ []),
    )
  where
    grouped : (a b c d : List Item) → a ++ (b ++ (c ++ d)) ≡ (a ++ (b ++ c)) ++ d
    grouped a b c d = simp append_assoc
in_order (f ∷ fs) [] r s more o p v w u n m e =
    absurd (no_frame_alone f s ((flat_map spelling fs ++ r) ++ more) v.0 u (sym e ∙ grouped (spelling f) (flat_map spelling fs) r more))
  where
    grouped : (a b c d : List ℕ) → ((a ++ b) ++ c) ++ d ≡ a ++ ((b ++ c) ++ d)
    grouped a b c d = simp append_assoc
in_order (f ∷ fs) (g ∷ gs) r s more o p v w u n m e =
    let k = same_frame f g ((flat_map spelling fs ++ r) ++ more) (flat_map spelling gs ++ s) v.0 w.0
    (sym (grouped (spelling f) (flat_map spelling fs) r more) ∙ e ∙ append_assoc (spelling g) (flat_map spelling gs) s) in
    let q = in_order fs gs r s more o p v.1 w.1 u n m k.1 in (
      q.0,
      ap (λ (x : Frame). begun_items p ++ (items_of gs ++ frame_items x)) (sym k.0)
          ∙ sym (append_assoc (begun_items p) (items_of gs) (frame_items f)) ∙ ap (λ (xs : List Item). xs ++ frame_items f) q.1
          ∙ regrouped q.0 (begun_items o) (items_of fs) (frame_items f),
    )
  where
    grouped : (a b c d : List ℕ) → ((a ++ b) ++ c) ++ d ≡ a ++ ((b ++ c) ++ d)
    grouped a b c d = simp append_assoc

    regrouped : (a b c d : List Item) → (a ++ (b ++ c)) ++ d ≡ a ++ (b ++ (c ++ d))
    regrouped a b c d = simp append_assoc
