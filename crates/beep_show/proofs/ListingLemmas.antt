-- What a lister holds after each step of its decoder.
use Rattle.std.proofs.Common.{◌≡◌, ℕ, ◌+◌, ◌-◌, ◌≤◌, Bool, true, false, ◌&&◌, fold, Option, Some, None, List, [], ◌∷◌, ◌++◌, length, take, refl, ap, sym, ◌∙◌, arith, subst, append_assoc, append-nil, length-append}
use Rattle.std.specs.List.{AllByRecursion}
use Rattle.std.proofs.lemmas.List.{take_all}
use Rattle.std.proofs.Math.Seq.{take-append_seam}
use Rattle.beep_frame.specs.declared.head.Head.{Head}
use Rattle.beep_frame.specs.declared.seq.Seq.{Seq}
use Rattle.beep_frame.specs.declared.step.Step.{Step}
use Rattle.beep_octets.specs.Held.{Held, KeepsRoom}
use Rattle.beep_frame.specs.Frame.{Frame, framed, seq_frame}
use Rattle.beep_frame.specs.Spelling.{header, header_line, seq_line, line_end}
use Rattle.beep_frame.specs.Modulo.{modulo_2_64}
use Rattle.beep_frame.specs.Decoding.{DecoderState, WasFed}
use Rattle.beep_frame.specs.Decodes.{Decodes, is_broken}
use Rattle.beep_frame.specs.Stream.{IsWithin, BeginsWithin}
use Rattle.beep_frame.proofs.LawLemmas.{means, length-header_line, length-seq_line}
use Rattle.beep_show.specs.declared.listing.Lister.{Lister}
use Rattle.beep_show.specs.declared.listing.TheConstants.{PIECE}
use Rattle.beep_show.specs.Show.{IsRead}
use Rattle.beep_show.specs.Texts.{frame_line, message_with, ends_message, gathers, IsEntry, alone, with_element, AreLines}
use Rattle.beep_show.specs.Listing.{Gathers, Gathered, SameLines, Follows, HasMessage, IsBeside, lists_elements, gathered, Adds, Holds}
use Rattle.beep_frame.specs.Fed.{fed_of}

-- ---- the lines of frames

-- the lines of frames and of those that follow
pub lines_append : (elements : Bool) (before : List ℕ) (fs gs : List Frame) (t u : List ℕ) → AreLines elements before fs t → AreLines elements (fold gathers before fs) gs u → AreLines elements before (fs ++ gs) (t ++ u)
lines_append elements before [] gs t u a b = subst (λ x. AreLines elements before gs (x ++ u)) (sym a) b
lines_append elements before (f ∷ fs) gs t u a b =
    (a.0, a.1 ++ u, a.2, lines_append elements (gathers before f) fs gs a.1 u a.3 b, ap (λ x. x ++ u) a.4 ∙ append_assoc a.0 a.1 u)

-- the lines of one frame
one_entry : (elements : Bool) (before : List ℕ) (f : Frame) (text : List ℕ) → IsEntry elements before f text → AreLines elements before (f ∷ []) text
one_entry elements before f text e = (text, [], e, refl, sym (append-nil text))

fold_more : (before : List ℕ) (fs gs : List Frame) → fold gathers before (fs ++ gs) ≡ fold gathers (fold gathers before fs) gs
fold_more before [] gs = refl
fold_more before (f ∷ fs) gs = fold_more (gathers before f) fs gs

-- what is gathered of frames and of those that follow
pub gathered-append : (fs gs : List Frame) → gathered (fs ++ gs) ≡ fold gathers (gathered fs) gs
gathered-append fs gs = fold_more [] fs gs

-- lines that were added, and then more
pub adds_on : (elements : Bool) (frames more next : List Frame) (a b c : List ℕ) → Adds elements frames more a b → Adds elements (frames ++ more) next b c → Adds elements frames (more ++ next) a c
adds_on elements frames more next a b c x y =
    let lines : AreLines elements (fold gathers (gathered frames) more) next y.text = subst (λ g. AreLines elements g next y.text) (gathered-append frames more) y.lines in
    record { text = x.text ++ y.text; lines = lines_append elements (gathered frames) more next x.text y.text x.lines lines; written = y.written ∙ ap (λ t. t ++ y.text) x.written ∙ append_assoc a x.text y.text }

-- no lines were added
pub adds_none : (elements : Bool) (frames : List Frame) (a b : List ℕ) → b ≡ a → Adds elements frames [] a b
adds_none elements frames a b e = record { text = []; lines = refl; written = e ∙ sym (append-nil a) }

-- what stands beside a frame's line makes its lines whole
entry_by : (elements : Bool) (before : List ℕ) (f : Frame) (beside : List ℕ) (b : Bool) → (elements && ends_message f) ≡ b → IsBeside b (message_with before f) beside → IsEntry elements before f (frame_line f ++ beside)
entry_by elements before f beside false e is = alone e (ap (λ x. frame_line f ++ x) is ∙ append-nil (frame_line f))
entry_by elements before f beside true e is = with_element e beside is refl

seq_entry : (elements : Bool) (before : List ℕ) (seq : Seq) → IsEntry elements before (seq_frame seq) (frame_line (seq_frame seq))
seq_entry true before seq = alone refl refl
seq_entry false before seq = alone refl refl

-- ---- each step

-- what one step made of a lister
pub record StepHolds (elements : Bool) (old new : Lister) (fed : List ℕ) (frames : List Frame) (taken : List ℕ) : Type 0 where
  pub more : List Frame
  pub rest : List ℕ
  pub known : Option Head
  pub holds : Holds elements new (fed_of (fed ++ taken) (frames ++ more) rest known)
  pub adds : Adds elements frames more old.out.octets new.out.octets
  pub fits : (k : ℕ) → k ≤ PIECE → length old.line.octets + length taken + k ≤ old.out.spare → length new.line.octets + k ≤ new.out.spare

module _ (elements : Bool) (l : Lister) (d : DecoderState) (new : Lister) (fed : List ℕ) (frames : List Frame) (rest : List ℕ) (known : Option Head) (octets : List ℕ) (n : ℕ) (h : Holds elements l (fed_of fed frames rest known)) (limit : d.tracker.max ≡ l.decoder.tracker.max) (within : n ≤ length octets) (fits : length l.line.octets + length (take n octets) ≤ l.out.spare) where
  abbrev taken : List ℕ
  taken = take n octets

  -- the line grows with what was taken, as long as that is short
  grows : Gathered l.line new.line l.has_head taken → (l.has_head ≡ false) → l.line.octets ≡ rest → length (rest ++ taken) ≤ 62 → new.line.octets ≡ rest ++ taken
  grows g fresh same short =
      let spare : length taken ≤ l.line.spare = omega (arith, h.room, ap length same, length-append rest taken) in
      g.adds fresh spare ∙ ap (λ x. x ++ taken) same

  held_on : (rest' : List ℕ) (known' : Option Head) → SameLines (record l { decoder = d }) new → WasFed d (fed_of (fed ++ taken) frames rest' known') → Gathers new.line.octets new.has_head rest' known' → KeepsRoom l.line new.line → length new.line.octets ≤ length l.line.octets + length taken → StepHolds elements l new fed frames taken
  held_on rest' known' s stands gathers kept short =
      let all : frames ++ [] ≡ frames = append-nil frames in
      let stands' : WasFed new.decoder (fed_of (fed ++ taken) (frames ++ []) rest' known') = subst (λ x. WasFed x (fed_of (fed ++ taken) (frames ++ []) rest' known')) (sym s.decoder) (subst (λ x. WasFed d (fed_of (fed ++ taken) x rest' known')) (sym all) stands) in
      let message : HasMessage new.zero (gathered (frames ++ [])) = subst (λ z. HasMessage z (gathered (frames ++ []))) (sym s.zero) (subst (λ x. HasMessage l.zero (gathered x)) (sym all) h.message) in
      record { more = []; rest = rest'; known = known'; holds = record { stands = stands'; max = ap (λ (x : DecoderState). x.tracker.max) s.decoder ∙ limit ∙ h.max; gathers = gathers; room = omega (arith, kept, h.room); frames_are = s.frames ∙ h.frames_are ∙ ap (λ xs. modulo_2_64 (length xs)) (sym all); elements_are = ap lists_elements s.zero ∙ h.elements_are; message = message }; adds = adds_none elements frames l.out.octets new.out.octets (ap (λ (x : Held). x.octets) s.out); fits = λ k piece fit. omega (arith, short, ap (λ (x : Held). x.spare) s.out) }

  -- the line is what came since the last whole frame, or the header of the rest
  gathered_none : known ≡ None → (l.has_head ≡ false) × (l.line.octets ≡ rest)
  gathered_none e = subst (λ hs. Gathers l.line.octets l.has_head rest hs) e h.gathers

  gathered_one : (head : Head) → known ≡ Some head → (l.has_head ≡ true) × (l.line.octets ≡ header head)
  gathered_one head e = subst (λ hs. Gathers l.line.octets l.has_head rest hs) e h.gathers

  long_enough : (line : Held) → l.line.octets ≡ rest → line.octets ≡ rest ++ taken → length line.octets ≤ length l.line.octets + length taken
  long_enough line same e = omega (arith, ap length same, ap length e, length-append rest taken)

  headed : (head : Head) → Follows (Step.Head head) (record l { decoder = d }) new taken → Decodes (Step.Head head) d (fed_of fed frames rest known) octets n → StepHolds elements l new fed frames taken
  headed head f g =
      let was = gathered_none g.first in
      let short : length (rest ++ taken) ≤ 62 = omega (arith, ap length g.whole, length-append (header_line head) line_end, length-header_line head g.is_head) in
      let line = grows f.2 was.0 was.1 short in
      held_on (rest ++ taken) (Some head) f.0 g.stands (f.1, line ∙ g.whole) f.2.room (long_enough new.line was.1 line)

  -- a line without its CRLF
  cut_line : (line : Held) (text : List ℕ) → line.octets ≡ text ++ line_end → take (length line.octets - 2) line.octets ≡ text
  cut_line line text same =
      let count : length line.octets - 2 ≡ length text = omega (arith, ap length same, length-append text line_end) in
      ap (λ k. take k line.octets) count ∙ ap (take (length text)) same ∙ take-append_seam text line_end

  -- the lines that were handed on
  joined : (text beside : List ℕ) (out : List ℕ) → out ≡ ((l.out.octets ++ text) ++ 10 ∷ []) ++ beside → out ≡ l.out.octets ++ ((text ++ 10 ∷ []) ++ beside)
  joined text beside out e =
      e ∙ ap (λ x. x ++ beside) (append_assoc l.out.octets text (10 ∷ [])) ∙ append_assoc l.out.octets (text ++ 10 ∷ []) beside

  framed_whole : Follows Step.Frame (record l { decoder = d }) new taken → Decodes Step.Frame d (fed_of fed frames rest known) octets n → StepHolds elements l new fed frames taken
  framed_whole f g =
      let was = gathered_one g.head g.known_is in
      let frame : Frame = framed g.head g.payload in
      let size : length l.line.octets ≡ length (header_line g.head) + 2 = omega (arith, ap length was.1, length-append (header_line g.head) line_end) in
      let short : length l.line.octets ≤ 62 = omega (arith, size, length-header_line g.head g.is_frame.0) in
      let w = f.ends (fed ++ taken) frames g.head g.payload (gathered frames) g.stands h.message in
      let written = w.written short (omega (arith, fits)) (omega (arith, fits, size)) in
      let lines : new.out.octets ≡ l.out.octets ++ (frame_line frame ++ w.beside) = joined (header_line g.head) w.beside new.out.octets (written ∙ ap (λ x. ((l.out.octets ++ x) ++ 10 ∷ []) ++ w.beside) (cut_line l.line (header_line g.head) was.1)) in
      let entry : IsEntry elements (gathered frames) frame (frame_line frame ++ w.beside) = entry_by elements (gathered frames) frame w.beside _ refl (subst (λ b. IsBeside (b && ends_message frame) (message_with (gathered frames) frame) w.beside) h.elements_are w.is_beside) in
      let stands : WasFed new.decoder (fed_of (fed ++ taken) (frames ++ frame ∷ []) [] None) = subst (λ x. WasFed x (fed_of (fed ++ taken) (frames ++ frame ∷ []) [] None)) (sym f.decoder) g.stands in
      let message : HasMessage new.zero (gathered (frames ++ frame ∷ [])) = subst (λ x. HasMessage new.zero x) (sym (gathered-append frames (frame ∷ []))) w.zero in
      record { more = frame ∷ []; rest = []; known = None; holds = record { stands = stands; max = ap (λ (x : DecoderState). x.tracker.max) f.decoder ∙ limit ∙ h.max; gathers = (f.has_head, f.cleared); room = omega (arith, h.room, f.line_room); frames_are = omega (arith, f.frames, h.frames_are, length-append frames (frame ∷ [])); elements_are = f.elements ∙ h.elements_are; message = message }; adds = record { text = frame_line frame ++ w.beside; lines = one_entry elements (gathered frames) frame (frame_line frame ++ w.beside) entry; written = lines }; fits = λ k piece fit. omega (arith, ap length f.cleared, f.fits k piece short (omega (arith, size)) (omega (arith, fit))) }

  seq_whole : (seq : Seq) → Follows (Step.Seq seq) (record l { decoder = d }) new taken → Decodes (Step.Seq seq) d (fed_of fed frames rest known) octets n → StepHolds elements l new fed frames taken
  seq_whole seq f g =
      let was = gathered_none g.none in
      let frame : Frame = seq_frame seq in
      let e = f.2 in
      let short : length (rest ++ taken) ≤ 62 = omega (arith, ap length g.whole, length-append (seq_line seq) line_end, length-seq_line seq g.is_seq) in
      let spare : length taken ≤ l.line.spare = omega (arith, h.room, ap length was.1, length-append rest taken) in
      let grown : f.0.octets ≡ rest ++ taken = f.1.adds was.0 spare ∙ ap (λ x. x ++ taken) was.1 in
      let line : f.0.octets ≡ seq_line seq ++ line_end = grown ∙ g.whole in
      let size : length f.0.octets ≡ length (seq_line seq) + 2 = omega (arith, ap length line, length-append (seq_line seq) line_end) in
      let long : length f.0.octets ≤ length l.line.octets + length taken = long_enough f.0 was.1 grown in
      let written = e.ends.written (omega (arith, fits, long)) (omega (arith, fits, long, size)) in
      let lines : new.out.octets ≡ l.out.octets ++ frame_line frame = written ∙ ap (λ x. (l.out.octets ++ x) ++ 10 ∷ []) (cut_line f.0 (seq_line seq) line) ∙ append_assoc l.out.octets (seq_line seq) (10 ∷ []) in
      let stands : WasFed new.decoder (fed_of (fed ++ taken) (frames ++ frame ∷ []) [] None) = subst (λ x. WasFed x (fed_of (fed ++ taken) (frames ++ frame ∷ []) [] None)) (sym e.decoder) g.stands in
      let message : HasMessage new.zero (gathered (frames ++ frame ∷ [])) = subst (λ x. HasMessage new.zero x) (sym (gathered-append frames (frame ∷ []))) (subst (λ z. HasMessage z (gathered frames)) (sym e.zero) h.message) in
      record { more = frame ∷ []; rest = []; known = None; holds = record { stands = stands; max = ap (λ (x : DecoderState). x.tracker.max) e.decoder ∙ limit ∙ h.max; gathers = (e.has_head, e.ends.cleared); room = omega (arith, h.room, f.1.room, e.ends.line_room); frames_are = omega (arith, e.frames, h.frames_are, length-append frames (frame ∷ [])); elements_are = ap lists_elements e.zero ∙ h.elements_are; message = message }; adds = record { text = frame_line frame; lines = one_entry elements (gathered frames) frame (frame_line frame) (seq_entry elements (gathered frames) seq); written = lines }; fits = λ k piece fit. omega (arith, ap length e.ends.cleared, e.ends.used, size, long, fit) }

  more_by : (held : Option Head) → known ≡ held → Follows Step.More (record l { decoder = d }) new taken → WasFed d (fed_of (fed ++ taken) frames (rest ++ taken) held) → StepHolds elements l new fed frames taken
  more_by None e f stands =
      let was = gathered_none e in
      let short = (means d (fed ++ taken) frames (rest ++ taken) None stands).is_head.short in
      let line = grows f.2 was.0 was.1 (omega arith) in
      held_on (rest ++ taken) None f.0 stands (f.1 ∙ was.0, line) f.2.room (long_enough new.line was.1 line)
  more_by (Some head) e f stands =
      let was : (l.has_head ≡ true) × (l.line.octets ≡ header head) = subst (λ x. Gathers l.line.octets l.has_head rest x) e h.gathers in
      let same : new.line ≡ l.line = f.2.stays was.0 in
      held_on (rest ++ taken) (Some head) f.0 stands (f.1 ∙ was.0, ap (λ (x : Held). x.octets) same ∙ was.1) f.2.room (omega (arith, ap (λ (x : Held). length x.octets) same))

  -- each step leaves a lister that holds what came
  pub followed : (step : Step) → is_broken step ≡ false → Follows step (record l { decoder = d }) new taken → Decodes step d (fed_of fed frames rest known) octets n → StepHolds elements l new fed frames taken
  followed Step.More b f g =
      let all : octets ≡ taken = sym (take_all n octets (omega (arith, g.all))) in
      more_by known refl f (subst (λ x. WasFed d (fed_of (fed ++ x) frames (rest ++ x) known)) all g.stands)
  followed (Step.Head head) b f g = headed head f g
  followed Step.Frame b f g = framed_whole f g
  followed (Step.Seq seq) b f g = seq_whole seq f g
  followed (Step.Broken rule place) b f g = cc

-- what a lister was given is a stream of its frames
pub read_of : (elements : Bool) (l : Lister) (fed : List ℕ) (frames : List Frame) (rest : List ℕ) (known : Option Head) → Holds elements l (fed_of fed frames rest known) → IsRead fed frames rest
read_of elements l fed frames rest known h =
    let read = means l.decoder fed frames rest known h.stands in
    record { stream = read.stream; within = subst (λ m. AllByRecursion (IsWithin m) frames) h.max read.within; begins_within = subst (λ m. BeginsWithin m rest) h.max read.begins_within }
