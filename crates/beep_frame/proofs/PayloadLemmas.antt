-- What a decoder keeps is the payload of the frame under way, and of the last data frame.
use Rattle.std.proofs.Common.{◌≡◌, ℕ, ◌+◌, ◌<◌, ◌≤◌, Bool, true, false, nat_le, Option, Some, None, List, [], ◌∷◌, ◌++◌, length, take, drop, min, refl, ap, sym, ◌∙◌, arith, subst, append_assoc, append-nil, length-append}
use Rattle.std.proofs.lemmas.List.{take_all, drop_at, length-take, take-take}
use Rattle.std.proofs.Math.Seq.{take-append_seam, take-append-add}
use Rattle.std.proofs.lemmas.Bool.Decides.{nat_tests}
use Rattle.beep_frame.specs.declared.head.Head.{Head}
use Rattle.beep_frame.specs.declared.seq.Seq.{Seq}
use Rattle.beep_frame.specs.declared.line.Line.{Line}
use Rattle.beep_frame.specs.declared.finder.Place.{Place}
use Rattle.beep_frame.specs.declared.step.Step.{Step}
use Rattle.beep_octets.specs.Held.{KeepsRoom}
use Rattle.beep_frame.specs.Modulo.{modulo_2_64}
use Rattle.beep_frame.specs.Frame.{Frame, framed, seq_frame, IsFrame}
use Rattle.beep_frame.specs.Spelling.{header, trailer, spelling}
use Rattle.beep_frame.specs.Reading.{At}
use Rattle.beep_frame.specs.Tracks.{TrackerState, IsWithinSize, Tracks, HasStopped, wanted_at}
use Rattle.beep_frame.specs.Decoding.{DecoderState, Keeps, WasFed, payload_in}
use Rattle.beep_frame.specs.Keeping.{Keeping, Added}
use Rattle.beep_frame.specs.Decodes.{Breaks, Answers, Decodes}
use Rattle.beep_frame.specs.Fed.{fed_of}

-- ---- the last of a list

-- lists that end with one element each and are equal end with the same one
last_same : {X : Type 0} (xs ys : List X) (x y : X) → xs ++ x ∷ [] ≡ ys ++ y ∷ [] → x ≡ y
last_same xs ys x y e =
    let long : length xs ≡ length ys = omega (arith, ap length e, length-append xs (x ∷ []), length-append ys (y ∷ [])) in
    let one : x ∷ [] ≡ y ∷ [] = sym (drop_at xs (x ∷ []) (length xs) refl) ∙ ap (drop (length xs)) e ∙ drop_at ys (y ∷ []) (length xs) (sym long) in
    cc

-- the first of the first octets
take_min : (w n : ℕ) (octets : List ℕ) (b : Bool) → nat_le w n ≡ b → take w (take n octets) ≡ take (min n w) octets
take_min w n octets true e =
    let le : w ≤ n = grind (arith, nat_tests) in
    let least : min n w ≡ w = omega arith in
    take-take w n octets le ∙ ap (λ k. take k octets) (sym least)
take_min w n octets false e =
    let lt : n < w = grind (arith, nat_tests) in
    let least : min n w ≡ n = omega arith in
    take_all w (take n octets) (omega (arith, length-take n octets)) ∙ ap (λ k. take k octets) (sym least)

-- ---- the payload among the octets of a frame

-- what stands after the header
beyond : (head : Head) (rest octets : List ℕ) → rest ≡ header head ++ octets → payload_in head rest ≡ take head.size octets
beyond head rest octets e =
    ap (λ x. take head.size (drop (length (header head)) x)) e ∙ ap (take head.size) (drop_at (header head) octets (length (header head)) refl)

-- a payload takes as many of the octets that follow as are still to come
goes_on : (size left : ℕ) (payload octets : List ℕ) → length payload + left ≡ size → take size (payload ++ octets) ≡ take size payload ++ take left octets
goes_on size left payload octets e =
    ap (λ k. take k (payload ++ octets)) (sym e) ∙ take-append-add payload octets left ∙ ap (λ x. x ++ take left octets) (sym (take_all size payload (omega arith)))

-- a whole payload takes none
is_whole : (size : ℕ) (payload octets : List ℕ) → length payload ≡ size → take size (payload ++ octets) ≡ payload
is_whole size payload octets e = ap (λ k. take k (payload ++ octets)) (sym e) ∙ take-append_seam payload octets

-- the payload so far, with the octets that follow
taking : (place : Place) (line : Line) (rest : List ℕ) (known : Option Head) (head : Head) → known ≡ Some head → At place line rest known
    → (more : List ℕ) → payload_in head (rest ++ more) ≡ payload_in head rest ++ take (wanted_at place) more
taking Place.Line line rest known head is at more = let two : Some head ≡ None = sym is ∙ at.1 in cc
taking (Place.Payload left) line rest known head is at more =
    let known_is : Some head ≡ Some at.0 = sym is ∙ at.2.known_is in
    let same : at.0 ≡ head = cc in
    let rest_is : rest ≡ header head ++ at.1 = at.2.rest_is ∙ ap (λ h. header h ++ at.1) same in
    let size : length at.1 + left ≡ head.size = at.3 ∙ ap (λ (h : Head). h.size) same in
    beyond head (rest ++ more) (at.1 ++ more) (ap (λ x. x ++ more) rest_is ∙ append_assoc (header head) at.1 more)
    ∙ goes_on head.size left at.1 more size ∙ ap (λ x. x ++ take left more) (sym (beyond head rest at.1 rest_is))
taking (Place.Trailer count) line rest known head is at more =
    let known_is : Some head ≡ Some at.0 = sym is ∙ at.2.known_is in
    let same : at.0 ≡ head = cc in
    let end : List ℕ = take count trailer in
    let rest_is : rest ≡ header head ++ (at.1 ++ end) = at.2.rest_is ∙ ap (λ h. header h ++ (at.1 ++ end)) same in
    let size : length at.1 ≡ head.size = at.3 ∙ ap (λ (h : Head). h.size) same in
    beyond head (rest ++ more) (at.1 ++ (end ++ more)) (ap (λ x. x ++ more) rest_is ∙ append_assoc (header head) (at.1 ++ end) more ∙ ap (λ x. header head ++ x) (append_assoc at.1 end more))
    ∙ is_whole head.size at.1 (end ++ more) size ∙ sym (is_whole head.size at.1 end size) ∙ sym (beyond head rest (at.1 ++ end) rest_is) ∙ sym (append-nil (payload_in head rest))

-- no more octets are still to come than the size leaves
size_left : (place : Place) (line : Line) (rest : List ℕ) (known : Option Head) (head : Head) → known ≡ Some head → At place line rest known
    → length (payload_in head rest) + wanted_at place ≤ head.size
size_left Place.Line line rest known head is at = let two : Some head ≡ None = sym is ∙ at.1 in cc
size_left (Place.Payload left) line rest known head is at =
    let known_is : Some head ≡ Some at.0 = sym is ∙ at.2.known_is in
    let same : at.0 ≡ head = cc in
    let rest_is : rest ≡ header head ++ at.1 = at.2.rest_is ∙ ap (λ h. header h ++ at.1) same in
    let size : length at.1 + left ≡ head.size = at.3 ∙ ap (λ (h : Head). h.size) same in
    let so_far : payload_in head rest ≡ at.1 = beyond head rest at.1 rest_is ∙ take_all head.size at.1 (omega arith) in
    omega (arith, ap length so_far)
size_left (Place.Trailer count) line rest known head is at =
    omega (arith, length-take head.size (drop (length (header head)) rest))

-- ---- each step

module _ (old new : DecoderState) (t : TrackerState) (fed : List ℕ) (frames : List Frame) (rest : List ℕ) (known : Option Head) (s : WasFed old (fed_of fed frames rest known)) (octets : List ℕ) (n m : ℕ) (within : n ≤ length octets) (m_is : m ≡ min n (wanted_at old.tracker.place)) where
  abbrev place : Place
  place = old.tracker.place

  -- the octets of a payload among those that were taken
  taken_of : take m octets ≡ take (wanted_at place) (take n octets)
  taken_of = ap (λ k. take k octets) m_is ∙ sym (take_min (wanted_at place) n octets _ refl)

  -- they find room
  fits : (head : Head) → known ≡ Some head → length (take m octets) ≤ old.payload.spare
  fits head is =
      let kept : Keeps old frames rest (Some head) = subst (Keeps old frames rest) is s.keeps in
      let small : IsWithinSize old.tracker.max (Some head) = subst (IsWithinSize old.tracker.max) is s.tracks.known_within in
      omega (arith, s.room, small, ap length kept.1, size_left place old.tracker.line rest known head is s.tracks.at, length-take m octets, m_is)

  -- the payload with them
  grown : (head : Head) → known ≡ Some head → new.head ≡ old.head → Added old.payload.octets new.payload.octets (take m octets) old.payload.spare
      → (new.head ≡ head) × (new.payload.octets ≡ payload_in head (rest ++ take n octets))
  grown head is same added =
      let kept : Keeps old frames rest (Some head) = subst (Keeps old frames rest) is s.keeps in
      (same ∙ kept.0, added.adds (fits head is) ∙ ap (λ x. x ++ take m octets) kept.1 ∙ ap (λ x. payload_in head rest ++ x) taken_of ∙ sym (taking place old.tracker.line rest known head is s.tracks.at (take n octets)))

  -- octets that lead to no frame
  keeps_on : (held : Option Head) → known ≡ held → (whole : List ℕ) → whole ≡ take n octets → new.whole ≡ false → new.head ≡ old.head
      → Added old.payload.octets new.payload.octets (take m octets) old.payload.spare → Keeps new frames (rest ++ whole) held
  keeps_on None is whole all going same added = λ ends before head payload e. absurd (cc (sym going ∙ ends))
  keeps_on (Some head) is whole all going same added =
      let now = grown head is same added in
      (now.0, now.1 ∙ ap (λ x. payload_in head (rest ++ x)) (sym all))

  -- a frame more, which is this data frame
  keeps_frame : (head : Head) (payload : List ℕ) → known ≡ Some head → IsFrame (framed head payload) → rest ++ take n octets ≡ spelling (framed head payload)
      → new.head ≡ old.head → Added old.payload.octets new.payload.octets (take m octets) old.payload.spare → Keeps new (frames ++ framed head payload ∷ []) [] None
  keeps_frame head payload is is_frame whole same added =
      let now = grown head is same added in
      let all : new.payload.octets ≡ payload = now.1 ∙ beyond head (rest ++ take n octets) (payload ++ trailer) (whole ∙ append_assoc (header head) payload trailer) ∙ is_whole head.size payload trailer is_frame.1 in
      λ ends before h p e.
      let last : framed head payload ≡ framed h p = last_same frames before (framed head payload) (framed h p) e in
      let heads_same : head ≡ h = cc in
      let payloads_same : payload ≡ p = cc in
      (now.0 ∙ heads_same, all ∙ payloads_same)

  -- a frame more, which is a SEQ
  keeps_seq : (seq : Seq) → Keeps new (frames ++ seq_frame seq ∷ []) [] None
  keeps_seq seq ends before h p e = let last : seq_frame seq ≡ framed h p = last_same frames before (seq_frame seq) (framed h p) e in cc

  -- a header that is whole
  keeps_head : (head : Head) → rest ++ take n octets ≡ header head → new.head ≡ head → new.payload.octets ≡ [] → Keeps new frames (rest ++ take n octets) (Some head)
  keeps_head head whole is empty =
      let nothing : payload_in head (rest ++ take n octets) ≡ [] = beyond head (rest ++ take n octets) [] (whole ∙ sym (append-nil (header head))) ∙ take_all head.size [] (omega arith) in
      (is, empty ∙ sym nothing)

  module _ (max_is : t.max ≡ old.tracker.max) where
    -- the tracker's word, what is kept, and the room that stays
    stands : (fed' : List ℕ) (frames' : List Frame) (rest' : List ℕ) (known' : Option Head) → new.tracker ≡ t → KeepsRoom old.payload new.payload
        → Tracks t (fed_of fed' frames' rest' known') → Keeps new frames' rest' known' → WasFed new (fed_of fed' frames' rest' known')
    stands fed' frames' rest' known' same room tracks keeps =
        record { tracks = subst (λ x. Tracks x (fed_of fed' frames' rest' known')) (sym same) tracks; keeps = keeps; room = omega (arith, s.room, room, max_is, ap (λ (x : TrackerState). x.max) same) }

    -- a decoder answers what its tracker answers
    pub decodes : (step : Step) → Keeping step (record old { tracker = t }) new (take m octets) → Answers step t (fed_of fed frames rest known) octets n → Decodes step new (fed_of fed frames rest known) octets n
    decodes Step.More k g =
        let all : octets ≡ take n octets = sym (take_all n octets (omega (arith, g.all))) in
        record { all = g.all; stands = stands (fed ++ octets) frames (rest ++ octets) known k.tracker k.room g.stands (keeps_on known refl octets all k.whole k.kept.0 k.kept.1) }
    decodes (Step.Head head) k g =
        record { first = g.first; is_head = g.is_head; within = omega (arith, g.within, ap (λ (x : TrackerState). x.max) k.tracker); whole = g.whole; stands = stands (fed ++ take n octets) frames (rest ++ take n octets) (Some head) k.tracker k.room g.stands (keeps_head head g.whole k.kept.0 k.kept.1) }
    decodes Step.Frame k g =
        record { head = g.head; payload = g.payload; known_is = g.known_is; is_frame = g.is_frame; whole = g.whole; stands = stands (fed ++ take n octets) (frames ++ framed g.head g.payload ∷ []) [] None k.tracker k.room g.stands (keeps_frame g.head g.payload g.known_is g.is_frame g.whole k.kept.0 k.kept.1) }
    decodes (Step.Seq seq) k g =
        record { none = g.none; is_seq = g.is_seq; whole = g.whole; stands = stands (fed ++ take n octets) (frames ++ seq_frame seq ∷ []) [] None k.tracker k.room g.stands (keeps_seq seq) }
    decodes (Step.Broken rule place) k g =
        let breaks = subst (λ max. Breaks rule place max (fed_of fed frames rest known) (take n octets)) (sym (ap (λ (x : TrackerState). x.max) k.tracker)) g.0 in
        (breaks, record { stopped = subst (λ x. HasStopped x rule place (modulo_2_64 (length rest + n))) (sym k.tracker) g.1; none = k.whole })
