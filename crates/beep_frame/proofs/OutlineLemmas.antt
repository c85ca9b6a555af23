-- What a plain reading holds after each step of its tracker, and what it then answers.
use Rattle.std.proofs.Common.{◌≡◌, ℕ, suc, ◌+◌, ◌-◌, ◌^◌, ◌<◌, ◌≤◌, false, List, [], ◌∷◌, ◌++◌, length, take, drop, Option, Some, None, inl, inr, refl, ap, sym, ◌∙◌, arith, subst, append_assoc, length-append, length-drop, take-append-drop}
use Rattle.std.specs.List.{flat_map}
use Rattle.std.proofs.lemmas.List.{take_all, drop_at, length-take-le, map-append}
use Rattle.std.proofs.Math.Seq.{take-append_seam, take-add}
use Rattle.beep_frame.specs.declared.head.Head.{Head}
use Rattle.beep_frame.specs.declared.head.TheConstants.{MAX_NUMBER}
use Rattle.beep_frame.specs.declared.rule.Rule.{Rule}
use Rattle.beep_frame.specs.declared.step.Step.{Step}
use Rattle.beep_frame.specs.declared.outline.PlainFrame.{PlainFrame}
use Rattle.beep_frame.specs.declared.outline.Begun.{Begun}
use Rattle.beep_frame.specs.declared.outline.Reading.{Reading}
use Rattle.beep_frame.specs.Frame.{Frame, framed, seq_frame}
use Rattle.beep_frame.specs.Spelling.{header, trailer, spelling}
use Rattle.beep_frame.specs.Stream.{Stream, DiesAt, BreaksBy}
use Rattle.beep_frame.specs.Modulo.{modulo_2_64}
use Rattle.beep_frame.specs.Tracks.{TrackerState, Tracks}
use Rattle.beep_frame.specs.Decodes.{Answers, is_broken}
use Rattle.beep_frame.specs.Outline.{frame_of, frames_of, DiesBy, IsWhole, IsDead}
use Rattle.beep_frame.specs.Outlining.{Notes, Holds, HasRoom, Adds, Ends, Follows}
use Rattle.beep_frame.proofs.LawLemmas.{read_by}
use Rattle.beep_frame.specs.Fed.{fed_of}

-- a payload stands after what comes before it
payload_at : (front payload tail read : List ℕ) (body size : ℕ) → body ≡ length front → length payload ≡ size → read ≡ front ++ (payload ++ tail) → take size (drop body read) ≡ payload
payload_at front payload tail read body size at long whole =
    ap (λ x. take size (drop body x)) whole ∙ ap (take size) (drop_at front (payload ++ tail) body (sym at)) ∙ ap (λ k. take k (payload ++ tail)) (sym long) ∙ take-append_seam payload tail

-- the octets of a data frame after others
regrouped : (frames head payload tail : List ℕ) → frames ++ (head ++ payload ++ tail) ≡ (frames ++ head) ++ (payload ++ tail)
regrouped frames head payload tail =
    ap (λ x. frames ++ x) (append_assoc head payload tail) ∙ sym (append_assoc frames head (payload ++ tail))

module _ (r : Reading) (fed : List ℕ) (h : Holds r fed) (piece : List ℕ) (n : ℕ) (d : TrackerState) (limit : d.max ≡ r.tracker.max) (read : List ℕ) (joined : fed ++ take n piece ≡ read) where
  abbrev pub frames : List Frame
  frames = frames_of r.frames.items

  -- what was read after the frames
  beyond : read ≡ flat_map spelling frames ++ (h.rest ++ take n piece)
  beyond = sym joined ∙ ap (λ x. x ++ take n piece) h.stands.whole ∙ append_assoc (flat_map spelling frames) h.rest (take n piece)

  more : (new : Reading) → Follows Step.More (record r { tracker = d }) new read → Answers Step.More d (fed_of fed frames h.rest h.known) piece n → Holds new read
  more new f g =
      let all : piece ≡ take n piece = sym (take_all n piece (omega (arith, g.all))) in
      let stands : Tracks d (fed_of read frames (h.rest ++ take n piece) h.known) = subst (λ x. Tracks d (fed_of x frames (h.rest ++ take n piece) h.known)) joined (subst (λ x. Tracks d (fed_of (fed ++ x) frames (h.rest ++ x) h.known)) all g.stands) in
      subst (λ x. Holds x read) (sym f) (record { rest = h.rest ++ take n piece; known = h.known; stands = stands; max = limit ∙ h.max; notes = h.notes })

  headed : (head : Head) (new : Reading) → Follows (Step.Head head) (record r { tracker = d }) new read → Answers (Step.Head head) d (fed_of fed frames h.rest h.known) piece n → Holds new read
  headed head new f g =
      let stands : Tracks d (fed_of read frames (h.rest ++ take n piece) (Some head)) = subst (λ x. Tracks d (fed_of x frames (h.rest ++ take n piece) (Some head))) joined g.stands in
      let body : length read ≡ length (flat_map spelling frames ++ header head) = ap length (beyond ∙ ap (λ x. flat_map spelling frames ++ x) g.whole) in
      subst (λ x. Holds x read) (sym f) (record { rest = h.rest ++ take n piece; known = Some head; stands = stands; max = limit ∙ h.max; notes = (refl, body) })

  -- one frame more
  added : (frame : PlainFrame) (f : Frame) (new : Reading) → frame_of frame ≡ f → Adds frame (record r { tracker = d }) new → Tracks d (fed_of (fed ++ take n piece) (frames ++ f ∷ []) [] None) → Holds new read
  added frame f new e a g =
      let all : frames_of new.frames.items ≡ frames ++ f ∷ [] = ap frames_of a.frames ∙ map-append frame_of r.frames.items (frame ∷ []) ∙ ap (λ x. frames ++ x ∷ []) e in
      let stands : Tracks new.tracker (fed_of read (frames_of new.frames.items) [] None) = subst (λ x. Tracks x (fed_of read (frames_of new.frames.items) [] None)) (sym a.tracker) (subst (λ x. Tracks d (fed_of read x [] None)) (sym all) (subst (λ x. Tracks d (fed_of x (frames ++ f ∷ []) [] None)) joined g)) in
      record { rest = []; known = None; stands = stands; max = ap (λ (x : TrackerState). x.max) a.tracker ∙ limit ∙ h.max; notes = subst (λ b. Notes b (frames_of new.frames.items) None) (sym a.begun) refl }

  -- what ends with a data frame
  ended : (head : Head) (payload : List ℕ) → h.rest ++ take n piece ≡ spelling (framed head payload) → read ≡ (flat_map spelling frames ++ header head) ++ (payload ++ trailer)
  ended head payload whole =
      beyond ∙ ap (λ x. flat_map spelling frames ++ x) whole ∙ regrouped (flat_map spelling frames) (header head) payload trailer

  framed_by : (begun : Option Begun) (new : Reading) → Notes begun frames h.known → Ends begun (record r { tracker = d }) new read → Answers Step.Frame d (fed_of fed frames h.rest h.known) piece n → Holds new read
  framed_by None new w f g = let two : None ≡ Some g.head = sym w ∙ g.known_is in absurd (cc)
  framed_by (Some begun) new w f g =
      let known : Some begun.head ≡ Some g.head = sym w.0 ∙ g.known_is in
      let same : begun.head ≡ g.head = cc in
      let body : begun.body ≡ length (flat_map spelling frames ++ header g.head) = w.1 ∙ ap (λ x. length (flat_map spelling frames ++ header x)) same in
      let long : length g.payload ≡ begun.head.size = g.is_frame.1 ∙ ap (λ (x : Head). x.size) (sym same) in
      let payload : f.0.octets ≡ g.payload = f.1 ∙ payload_at (flat_map spelling frames ++ header g.head) g.payload trailer read begun.body begun.head.size body long (ended g.head g.payload g.whole) in
      let frame : framed begun.head f.0.octets ≡ framed g.head g.payload = cc in
      added (PlainFrame.Data begun.head f.0) (framed g.head g.payload) new frame f.2 g.stands

  -- each step leaves a reading that holds what came
  pub followed : (step : Step) (new : Reading) → is_broken step ≡ false → Follows step (record r { tracker = d }) new read → Answers step d (fed_of fed frames h.rest h.known) piece n → Holds new read
  followed Step.More new b f g = more new f g
  followed (Step.Head head) new b f g = headed head new f g
  followed Step.Frame new b f g = framed_by r.begun new h.notes f g
  followed (Step.Seq seq) new b f g = added (PlainFrame.Seq seq) (seq_frame seq) new refl f g.stands
  followed (Step.Broken rule place) new b f g = cc

  room_by : (begun : Option Begun) → Notes begun frames h.known → Answers Step.Frame d (fed_of fed frames h.rest h.known) piece n → HasRoom Step.Frame begun (length read)
  room_by None w g = tt
  room_by (Some begun) w g =
      let known : Some begun.head ≡ Some g.head = sym w.0 ∙ g.known_is in
      let same : begun.head ≡ g.head = cc in
      let body : begun.body ≡ length (flat_map spelling frames ++ header g.head) = w.1 ∙ ap (λ x. length (flat_map spelling frames ++ header x)) same in
      let long : length g.payload ≡ begun.head.size = g.is_frame.1 ∙ ap (λ (x : Head). x.size) (sym same) in
      let all : length read ≡ length (flat_map spelling frames ++ header g.head) + length (g.payload ++ trailer) = ap length (ended g.head g.payload g.whole) ∙ length-append (flat_map spelling frames ++ header g.head) (g.payload ++ trailer) in
      omega (arith, all, long, body, length-append g.payload trailer)

  -- a payload that ends lies within what was read
  pub room : (step : Step) → Answers step d (fed_of fed frames h.rest h.known) piece n → HasRoom step r.begun (length read)
  room Step.More g = tt
  room (Step.Head head) g = tt
  room Step.Frame g = room_by r.begun h.notes g
  room (Step.Seq seq) g = tt
  room (Step.Broken rule place) g = tt

-- ---- the answers

pub not_broken : (step : Step) → ((rule : Rule) (place : ℕ) → step ≡ Step.Broken rule place → ⊥) → is_broken step ≡ false
not_broken Step.More n = refl
not_broken (Step.Head head) n = refl
not_broken Step.Frame n = refl
not_broken (Step.Seq seq) n = refl
not_broken (Step.Broken rule place) n = absurd (n rule place refl)

pub decodes_by : (step by : Step) (d : TrackerState) (fed : List ℕ) (frames : List Frame) (rest : List ℕ) (known : Option Head) (piece : List ℕ) (n : ℕ) → step ≡ by → Answers step d (fed_of fed frames rest known) piece n → Answers by d (fed_of fed frames rest known) piece n
decodes_by step by d fed frames rest known piece n e g = subst (λ x. Answers x d (fed_of fed frames rest known) piece n) e g

-- no header has a size above the greatest number
dies_by : (rule : Rule) (max : ℕ) (before : List ℕ) (frames : List Frame) (octet : ℕ) → max ≡ MAX_NUMBER → BreaksBy rule max before frames octet → DiesAt before octet × DiesBy rule before
dies_by rule max before frames octet e (inl w) = (w.1, inr (w.0, w.2))
dies_by rule max before frames octet e (inr (inl w)) = (w.1, inl (w.0, w.2))
dies_by rule max before frames octet e (inr (inr w)) = absurd (omega (arith, w.2.size, w.3, e))

-- what is left of a list, as a slice has it
pub slice_left : (octets : List ℕ) (at : ℕ) → take (length octets - at) (drop at octets) ≡ drop at octets
slice_left octets at = take_all (length octets - at) (drop at octets) (omega (arith, length-drop at octets))

-- what was read with a step, as a slice has it
pub read_with : (octets : List ℕ) (at n : ℕ) → take at octets ++ take n (take (length octets - at) (drop at octets)) ≡ take (at + n) octets
read_with octets at n = ap (λ x. take at octets ++ take n x) (slice_left octets at) ∙ sym (take-add at n octets)

-- the octets of a whole reading are a stream
pub alive : (r : Reading) (octets : List ℕ) (at left : ℕ) (h : Holds r (take at octets)) → at ≡ length octets → length octets < 2 ^ 64 → left ≡ modulo_2_64 (length h.rest) → IsWhole octets (frames_of r.frames.items) left
alive r octets at left h e small l =
    let stream : Stream octets (frames_of r.frames.items) h.rest = subst (λ x. Stream x (frames_of r.frames.items) h.rest) (take_all at octets (omega arith)) (read_by r.tracker (take at octets) (frames_of r.frames.items) h.rest h.known h.stands) in
    record { rest = h.rest; stream = stream; count_is = omega (arith, l, ap length stream.whole, length-append (flat_map spelling (frames_of r.frames.items)) h.rest) }

module _ (r : Reading) (octets : List ℕ) (at : ℕ) (h : Holds r (take at octets)) (inside : at ≤ length octets) (small : length octets < 2 ^ 64) (piece : List ℕ) (piece_is : piece ≡ drop at octets) (n : ℕ) (within : n ≤ length piece) (d : TrackerState) (limit : d.max ≡ r.tracker.max) (rule : Rule) (place : ℕ) (g : Answers (Step.Broken rule place) d (fed_of (take at octets) (frames_of r.frames.items) h.rest h.known) piece n) where
  whole : octets ≡ (take at octets ++ g.0.before) ++ g.0.octet ∷ drop n piece
  whole =
      sym (take-append-drop at octets) ∙ ap (λ x. take at octets ++ x) (sym piece_is ∙ sym (take-append-drop n piece) ∙ ap (λ x. x ++ drop n piece) g.0.taken_is ∙ append_assoc g.0.before (g.0.octet ∷ []) (drop n piece)) ∙ sym (append_assoc (take at octets) g.0.before (g.0.octet ∷ drop n piece))

  count : n ≡ length g.0.before + 1
  count = omega (arith, ap length g.0.taken_is, length-append g.0.before (g.0.octet ∷ []), length-take-le n piece within)

  fed_is : length (take at octets) ≡ length (flat_map spelling (frames_of r.frames.items)) + length h.rest
  fed_is = ap length h.stands.whole ∙ length-append (flat_map spelling (frames_of r.frames.items)) h.rest

  all : length octets ≡ length (take at octets) + length g.0.before + suc (length (drop n piece))
  all = ap length whole ∙ length-append (take at octets ++ g.0.before) (g.0.octet ∷ drop n piece) ∙ ap (λ k. k + suc (length (drop n piece))) (length-append (take at octets) g.0.before)

  -- the octets that are left are those after the frames, with the dead one
  pub left_is : (left : ℕ) → left ≡ modulo_2_64 (length h.rest + n) → left ≡ length (h.rest ++ g.0.before) + 1
  left_is left e = omega (arith, e, count, fed_is, all, small, length-append h.rest g.0.before)

  pub dead : (left : ℕ) → left ≡ modulo_2_64 (length h.rest + n) → IsDead rule place octets (frames_of r.frames.items) (left - 1)
  dead left e =
      let by = dies_by rule d.max (take at octets ++ g.0.before) (frames_of r.frames.items) g.0.octet (limit ∙ h.max) g.0.by in
      let spot : place ≡ length (take at octets ++ g.0.before) = omega (arith, g.0.place_is, all, small, length-append (take at octets) g.0.before) in
      let rest_is : left - 1 ≡ length (h.rest ++ g.0.before) = omega (arith, left_is left e) in
      record { before = take at octets ++ g.0.before; octet = g.0.octet; more = drop n piece; octets_are = whole; place_is = spot; whole = record { rest = h.rest ++ g.0.before; stream = g.0.stream; count_is = rest_is }; dies = by.0; by = by.1 }
