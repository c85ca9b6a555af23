-- The first octets of some frames are their first items.
use Rattle.std.proofs.Common.{◌≡◌, ℕ, zero, suc, List, [], ◌∷◌, ◌++◌, length, Option, None, Some, refl, ap, sym, ◌∙◌, arith, append_assoc, append-nil, length-append}
use Rattle.std.specs.List.{flat_map, AllByRecursion}
use Rattle.beep_frame.specs.declared.head.Head.{Head}
use Rattle.beep_history.specs.declared.journal.Side.{Side}
use Rattle.beep_frame.specs.Frame.{Frame, framed, seq_frame, IsFrame, IsHead}
use Rattle.beep_frame.specs.Spelling.{spelling, header, header_line, seq_line, line_end, trailer}
use Rattle.beep_frame.specs.Line.{at_head, at_seq}
use Rattle.beep_frame.specs.Stream.{Stream, IsHeadOf, IsAlive, IsUnfinished}
use Rattle.beep_history.specs.Journal.{Item, began, passed}
use Rattle.beep_frame.proofs.AliveLemmas.{alive_before}
use Rattle.beep_frame.proofs.StreamLemmas.{same_frame, same_line, SameLine, tail_of, parted}
use Rattle.beep_two_ends.specs.Octets.{frame_items, items_of, read_items, begun_items}

abbrev zeros : ℕ → List ℕ
zeros zero = []
zeros (suc n) = 0 ∷ zeros n

length-zeros : (n : ℕ) → length (zeros n) ≡ n
length-zeros zero = refl
length-zeros (suc n) = ap (λ (m : ℕ). suc m) (length-zeros n)

pub no_header : (head : Head) (more : List ℕ) → header head ++ more ≡ [] → ⊥
no_header head more e =
    let n : length ((header_line head ++ line_end) ++ more) ≡ 0 = ap length e in
    absurd (omega (arith, n, length-append (header_line head ++ line_end) more, length-append (header_line head) line_end))

no_spelling : (frame : Frame) (more : List ℕ) → spelling frame ++ more ≡ [] → ⊥
no_spelling (framed head payload) more e =
    no_header head (payload ++ trailer ++ more) (let f : (header head ++ payload ++ trailer) ++ more ≡ [] = e in sym (grouped (header head) payload trailer more) ∙ f)
  where
    grouped : (a b c d : List ℕ) → (a ++ b ++ c) ++ d ≡ a ++ (b ++ c ++ d)
    grouped a b c d = simp append_assoc
no_spelling (seq_frame seq) more e =
    let n : length ((seq_line seq ++ line_end) ++ more) ≡ 0 = ap length e in
    absurd (omega (arith, n, length-append (seq_line seq ++ line_end) more, length-append (seq_line seq) line_end))

-- a frame that begins with a header is of that header
begins_with : (head : Head) (m more : List ℕ) (g : Frame) (y : List ℕ) → IsHead head → IsFrame g → header head ++ (m ++ more) ≡ spelling g ++ y
    → (payload : List ℕ) × (g ≡ framed head payload)
begins_with head m more g y h w e =
    begins_by g w (same_line (framed head (zeros head.size)) g (m ++ more) (tail_of g ++ y) (h, length-zeros head.size) w (e ∙ sym (parted g y)))
  where
    begins_by : (g : Frame) → IsFrame g → SameLine (framed head (zeros head.size)) g (m ++ more) (tail_of g ++ y)
        → (payload : List ℕ) × (g ≡ framed head payload)
    begins_by (framed k q) w s = let e : at_head head ≡ at_head k = s.end in let same : k ≡ head = cc in (q, ap (λ (x : Head). framed x q) same)
    begins_by (seq_frame k) w s = let e : at_head head ≡ at_seq k = s.end in absurd (cc)

in_rest : (whole : List Frame) (rest more : List ℕ) (head : Option Head) → AllByRecursion IsFrame whole → rest ++ more ≡ flat_map spelling whole
    → IsHeadOf rest head → (newer : List Item) × (items_of whole ≡ newer ++ begun_items head)
in_rest whole rest more None w e t = (items_of whole, sym (append-nil (items_of whole)))
in_rest [] rest more (Some head) w e t =
    absurd (no_header head (t.more ++ more) (sym (append_assoc (header head) t.more more) ∙ ap (λ (xs : List ℕ). xs ++ more) (sym t.begins) ∙ e))
in_rest (g ∷ gs) rest more (Some head) w e t =
    let b = begins_with head t.more more g (flat_map spelling gs) t.is_head w.0
    (sym (append_assoc (header head) t.more more) ∙ ap (λ (xs : List ℕ). xs ++ more) (sym t.begins) ∙ e) in (
      items_of gs ++ passed Side.Received head b.0 ∷ [],
      ap (λ (f : Frame). items_of gs ++ frame_items f) b.1
          ∙ sym (append_assoc (items_of gs) (passed Side.Received head b.0 ∷ []) (began Side.Received head ∷ [])),
    )

pub in_order : (whole frames : List Frame) (rest more : List ℕ) (head : Option Head) → AllByRecursion IsFrame whole → AllByRecursion IsFrame frames
    → (flat_map spelling frames ++ rest) ++ more ≡ flat_map spelling whole → IsHeadOf rest head
    → (newer : List Item) × (items_of whole ≡ newer ++ read_items frames head)
in_order whole [] rest more head w v e t =
    let r = in_rest whole rest more head w e t in (r.0, r.1 ∙ ap (λ (xs : List Item). r.0 ++ xs) (sym (append-nil (begun_items head))))
in_order [] (f ∷ fs) rest more head w v e t =
    absurd (no_spelling f ((flat_map spelling fs ++ rest) ++ more) (grouped (spelling f) (flat_map spelling fs) rest more ∙ e))
  where
    grouped : (a b c d : List ℕ) → a ++ ((b ++ c) ++ d) ≡ ((a ++ b) ++ c) ++ d
    grouped a b c d = simp append_assoc
in_order (g ∷ gs) (f ∷ fs) rest more head w v e t =
    let s = same_frame f g ((flat_map spelling fs ++ rest) ++ more) (flat_map spelling gs) v.0 w.0 (grouped (spelling f) (flat_map spelling fs) rest more ∙ e) in
    let r = in_order gs fs rest more head w.1 v.1 s.1 t in (
      r.0,
      ap (λ (x : Frame). items_of gs ++ frame_items x) (sym s.0) ∙ ap (λ (xs : List Item). xs ++ frame_items f) r.1
          ∙ regrouped r.0 (begun_items head) (items_of fs) (frame_items f),
    )
  where
    grouped : (a b c d : List ℕ) → a ++ ((b ++ c) ++ d) ≡ ((a ++ b) ++ c) ++ d
    grouped a b c d = simp append_assoc

    regrouped : (a b c d : List Item) → (a ++ (b ++ c)) ++ d ≡ a ++ (b ++ (c ++ d))
    regrouped a b c d = simp append_assoc

-- no octets are less than a frame
none-unfinished : IsUnfinished []
none-unfinished = by-frame (spelling some_seq) refl
  where
    some_seq : Frame
    some_seq = seq_frame (record { channel = 0; ackno = 0; window = 0 })

    by-frame : (text : List ℕ) → spelling some_seq ≡ text → IsUnfinished []
    by-frame [] e = absurd (no_spelling some_seq [] (append-nil (spelling some_seq) ∙ e))
    by-frame (octet ∷ others) e = record {
      frame = some_seq;
      is_frame = record { channel = omega arith; ackno = omega arith; window = omega arith };
      next = octet;
      others = others;
      spelled = e;
    }

-- what begins the spellings of frames is alive
pub always_alive : (whole : List Frame) (octets more : List ℕ) → AllByRecursion IsFrame whole → octets ++ more ≡ flat_map spelling whole → IsAlive octets
always_alive whole octets more w e = alive_before whole octets more [] w none-unfinished (e ∙ sym (append-nil (flat_map spelling whole)))

pub reads_in_order : (whole : List Frame) (octets more : List ℕ) (frames : List Frame) (rest : List ℕ) (head : Option Head)
    → AllByRecursion IsFrame whole → octets ++ more ≡ flat_map spelling whole → Stream octets frames rest → IsHeadOf rest head
    → (newer : List Item) × (items_of whole ≡ newer ++ read_items frames head)
reads_in_order whole octets more frames rest head w e s t =
    in_order whole frames rest more head w s.each (ap (λ (xs : List ℕ). xs ++ more) (sym s.whole) ∙ e) t
