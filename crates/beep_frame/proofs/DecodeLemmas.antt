-- What a tracker answers is what the stream says.
use Rattle.std.proofs.Common.{◌≡◌, ℕ, ◌+◌, ◌-◌, ◌<◌, ◌≤◌, Bool, true, false, ◌==◌, nat_lt, cond, Option, Some, None, List, [], ◌∷◌, ◌++◌, length, take, get_or, inl, inr, refl, ap, sym, ◌∙◌, arith, subst, append_assoc, append-nil, length-append}
use Rattle.std.specs.List.{flat_map, AllByRecursion}
use Rattle.std.proofs.lemmas.List.{length-take-le, take_all, take_more}
use Rattle.std.proofs.lemmas.List.Concat.{flat_map-append}
use Rattle.std.proofs.lemmas.Bool.Decides.{nat_tests}
use Rattle.beep_frame.specs.declared.head.Head.{Head}
use Rattle.beep_frame.specs.declared.seq.Seq.{Seq}
use Rattle.beep_frame.specs.declared.rule.Rule.{Rule}
use Rattle.beep_frame.specs.declared.line.Line.{Line}
use Rattle.beep_frame.specs.declared.finder.Place.{Place}
use Rattle.beep_frame.specs.declared.finder.Found.{Found}
use Rattle.beep_frame.specs.declared.step.Step.{Step}
use Rattle.beep_frame.specs.Frame.{Frame, framed, seq_frame, IsFrame, IsHead, IsSeq}
use Rattle.beep_frame.specs.Spelling.{header, trailer, spelling}
use Rattle.beep_frame.specs.Stream.{IsUnfinished, Stream, DiesAt, InTrailer, IsWithin, HasHead, IsHeadOf}
use Rattle.beep_frame.specs.Reading.{At}
use Rattle.beep_frame.specs.Finding.{Finds, EndsFrame, EndsInLine, EndsInTrailer}
use Rattle.beep_frame.specs.Modulo.{modulo_2_64}
use Rattle.beep_frame.specs.Tracks.{TrackerState, IsWithinSize, Tracks, HasStopped}
use Rattle.beep_frame.specs.Decodes.{Answers, GivesMore, GivesHead, GivesFrame, PassesFrame, GivesSeq, Breaks}
use Rattle.beep_frame.specs.Answering.{moved, after_header, last_number, broken_by, renewed, step_of, after_found}
use Rattle.beep_frame.proofs.AliveLemmas.{dies_in_line, dies_in_trailer, not_in_trailer, unfinished_line, unfinished_trailer, unfinished_header}
use Rattle.beep_frame.proofs.LawLemmas.{head_at, no_head, not_whole}
use Rattle.beep_frame.specs.Fed.{fed_of}

-- one more that has the property
all_push : {X : Type 0} (P : X → Type 0) (xs : List X) (x : X) → AllByRecursion P xs → P x → AllByRecursion P (xs ++ x ∷ [])
all_push P [] x a p = (p, tt)
all_push P (y ∷ ys) x a p = (a.0, all_push P ys x a.1 p)

modulo-more : (used n all : ℕ) → used ≡ modulo_2_64 all → modulo_2_64 (used + n) ≡ modulo_2_64 (all + n)
modulo-more used n all e = omega arith

modulo-last : (used n all : ℕ) → used ≡ modulo_2_64 all → 0 < all + n → last_number (modulo_2_64 (used + n)) ≡ modulo_2_64 (all + n - 1)
modulo-last used n all e some = omega arith

module _ (d : TrackerState) (place : Place) (line : Line) (n : ℕ) (octets fed : List ℕ) (frames : List Frame) (rest : List ℕ) (known : Option Head) (s : Tracks d (fed_of fed frames rest known)) (within : n ≤ length octets) where
  -- all octets that were fed
  grown : (taken : List ℕ) → fed ++ taken ≡ flat_map spelling frames ++ (rest ++ taken)
  grown taken = ap (λ x. x ++ taken) s.whole ∙ append_assoc (flat_map spelling frames) rest taken

  count : length (take n octets) ≡ n
  count = length-take-le n octets within

  used_now : modulo_2_64 (d.used + n) ≡ modulo_2_64 (length (fed ++ take n octets))
  used_now = modulo-more d.used n (length fed) s.used ∙ ap modulo_2_64 (omega (arith, length-append fed (take n octets), count))

  left_now : modulo_2_64 (d.left + n) ≡ modulo_2_64 (length (rest ++ take n octets))
  left_now = modulo-more d.left n (length rest) s.left ∙ ap modulo_2_64 (omega (arith, length-append rest (take n octets), count))

  last_now : 0 < length fed + n → last_number (modulo_2_64 (d.used + n)) ≡ modulo_2_64 (length fed + n - 1)
  last_now some = modulo-last d.used n (length fed) s.used some

  gives_more : Finds Found.More place line rest known octets n → GivesMore (Tracks (moved d place line n)) (fed_of fed frames rest known) octets n
  gives_more f =
      let same : take n octets ≡ octets = take_all n octets (omega arith) in
      record { all = f.0; stands = record { goes_on = s.goes_on; whole = grown octets; each = s.each; within = s.within; at = f.1; known_within = s.known_within; used = subst (λ x. modulo_2_64 (d.used + n) ≡ modulo_2_64 (length (fed ++ x))) same used_now; left = subst (λ x. modulo_2_64 (d.left + n) ≡ modulo_2_64 (length (rest ++ x))) same left_now } }

  -- a frame that is whole with these octets
  with_frame : (f : Frame) → IsFrame f → IsWithin d.max f → rest ++ take n octets ≡ spelling f → Tracks (renewed (moved d place line n)) (fed_of (fed ++ take n octets) (frames ++ f ∷ []) [] None)
  with_frame f is_frame small whole =
      let joined : flat_map spelling (frames ++ f ∷ []) ≡ flat_map spelling frames ++ spelling f = flat_map-append spelling frames (f ∷ []) ∙ ap (λ x. flat_map spelling frames ++ x) (append-nil (spelling f)) in
      record { goes_on = s.goes_on; whole = grown (take n octets) ∙ ap (λ x. flat_map spelling frames ++ x) whole ∙ sym joined ∙ sym (append-nil (flat_map spelling (frames ++ f ∷ []))); each = all_push IsFrame frames f s.each is_frame; within = all_push (IsWithin d.max) frames f s.within small; at = (refl, refl); known_within = tt; used = used_now; left = refl }

  gives_frame : EndsFrame (rest ++ take n octets) known → GivesFrame (Tracks (renewed (moved d place line n))) (fed_of fed frames rest known) (take n octets)
  gives_frame f =
      let small : IsWithinSize d.max (Some f.head) = subst (IsWithinSize d.max) f.known_is s.known_within in
      record { head = f.head; payload = f.payload; known_is = f.known_is; is_frame = f.is_frame; whole = f.whole; stands = with_frame (framed f.head f.payload) f.is_frame small f.whole }

  -- the frame of this payload
  pub passes_frame : (head : Head) (payload : List ℕ) → known ≡ Some head → IsFrame (framed head payload) → rest ++ take n octets ≡ spelling (framed head payload)
      → PassesFrame payload (Tracks (renewed (moved d place line n))) (fed_of fed frames rest known) (take n octets)
  passes_frame head payload is is_frame whole =
      let small : IsWithinSize d.max (Some head) = subst (IsWithinSize d.max) is s.known_within in
      record { head = head; known_is = is; is_frame = is_frame; whole = whole; stands = with_frame (framed head payload) is_frame small whole }

  gives_seq : (seq : Seq) → (known ≡ None) × IsSeq seq × (rest ++ take n octets ≡ spelling (seq_frame seq)) → GivesSeq seq (Tracks (renewed (moved d place line n))) (fed_of fed frames rest known) (take n octets)
  gives_seq seq f = record { none = f.0; is_seq = f.1; whole = f.2; stands = with_frame (seq_frame seq) f.1 tt f.2 }

  -- a header that is whole leads into its payload, or its trailer
  at_payload : (head : Head) → IsHead head → rest ++ take n octets ≡ header head → (b : Bool) → (head.size == 0) ≡ b → At (cond b (Place.Trailer 0) (Place.Payload head.size)) line (rest ++ take n octets) (Some head)
  at_payload head is_head whole true e =
      let none : 0 ≡ head.size = grind (arith, nat_tests) in
      (head, [], record { known_is = refl; is_head = is_head; rest_is = whole ∙ sym (append-nil (header head)) }, none, omega arith)
  at_payload head is_head whole false e =
      let some : 0 < head.size = grind (arith, nat_tests) in
      (head, [], record { known_is = refl; is_head = is_head; rest_is = whole ∙ sym (append-nil (header head)) }, omega arith, some)

  gives_head : (head : Head) → (known ≡ None) × IsHead head × (rest ++ take n octets ≡ header head) → head.size ≤ d.max → GivesHead head (Tracks (record (moved d place line n) { place = after_header head.size })) d.max (fed_of fed frames rest known) (take n octets)
  gives_head head f small =
      record { first = f.0; is_head = f.1; within = small; whole = f.2; stands = record { goes_on = s.goes_on; whole = grown (take n octets); each = s.each; within = s.within; at = at_payload head f.1 f.2 _ refl; known_within = small; used = used_now; left = left_now } }

  last_of : (before : List ℕ) (octet : ℕ) → take n octets ≡ before ++ octet ∷ [] → last_number (modulo_2_64 (d.used + n)) ≡ modulo_2_64 (length (fed ++ before))
  last_of before octet e =
      let one : n ≡ length before + 1 = omega (arith, sym count, ap length e, length-append before (octet ∷ [])) in
      let place : length fed + n - 1 ≡ length (fed ++ before) = omega (arith, length-append fed before) in
      last_now (omega arith) ∙ ap modulo_2_64 place

  -- the stream up to the octet at which it breaks a rule
  stream_to : (before : List ℕ) → IsUnfinished (rest ++ before) → Stream (fed ++ before) frames (rest ++ before)
  stream_to before u = record { whole = grown before; each = s.each; unfinished = u }

  dies_line : EndsInLine rest known (take n octets) → Breaks Rule.Header (last_number (modulo_2_64 (d.used + n))) d.max (fed_of fed frames rest known) (take n octets)
  dies_line f =
      let whole : fed ++ f.before ≡ flat_map spelling frames ++ (rest ++ f.before) = grown f.before in
      let dies : DiesAt (fed ++ f.before) f.octet = subst (λ x. DiesAt x f.octet) (sym whole) (dies_in_line frames (rest ++ f.before) f.octet s.each f.dies) in
      let spot : InTrailer (fed ++ f.before) → ⊥ = subst (λ x. InTrailer x → ⊥) (sym whole) (not_in_trailer frames (rest ++ f.before) f.dies.line s.each f.dies.inside) in
      record { before = f.before; octet = f.octet; taken_is = f.taken_is; place_is = last_of f.before f.octet f.taken_is; stream = stream_to f.before (unfinished_line (rest ++ f.before) f.dies.line f.dies.inside); is_head = head_at Place.Line f.dies.line (rest ++ f.before) known (f.dies.inside, f.none); by = inl (refl, dies, spot) }

  dies_trailer : EndsInTrailer rest known (take n octets) → Breaks Rule.Trailer (last_number (modulo_2_64 (d.used + n))) d.max (fed_of fed frames rest known) (take n octets)
  dies_trailer f =
      let whole : fed ++ f.before ≡ flat_map spelling frames ++ (rest ++ f.before) = grown f.before in
      let dies : DiesAt (fed ++ f.before) f.octet = subst (λ x. DiesAt x f.octet) (sym whole) (dies_in_trailer frames (rest ++ f.before) f.octet s.each f.dies) in
      let spot : InTrailer (fed ++ f.before) = record { frames = frames; head = f.dies.head; payload = f.dies.payload; count = f.dies.count; each = s.each; is_frame = f.dies.is_frame; fewer = f.dies.fewer; whole = whole ∙ ap (λ x. flat_map spelling frames ++ x) f.dies.whole } in
      let begun : HasHead (rest ++ f.before) f.dies.head = record { is_head = f.dies.is_frame.0; more = f.dies.payload ++ take f.dies.count trailer; begins = f.dies.whole ∙ append_assoc (header f.dies.head) f.dies.payload (take f.dies.count trailer) } in
      record { before = f.before; octet = f.octet; taken_is = f.taken_is; place_is = last_of f.before f.octet f.taken_is; stream = stream_to f.before (unfinished_trailer (rest ++ f.before) f.dies.head f.dies.payload f.dies.count f.dies.is_frame f.dies.fewer f.dies.whole); is_head = subst (IsHeadOf (rest ++ f.before)) (sym f.known_is) begun; by = inr (inl (refl, dies, spot)) }

  -- a header that is whole now wasn't before
  some_taken : (head : Head) → known ≡ None → IsHead head → rest ++ take n octets ≡ header head → (b : Bool) → nat_lt 0 n ≡ b → 0 < n
  some_taken head first is_head whole true e = grind (arith, nat_tests)
  some_taken head first is_head whole false e =
      let none : n ≡ 0 = grind (arith, nat_tests) in
      let nothing : take n octets ≡ [] = ap (λ k. take k octets) none in
      let begins : rest ≡ header head ++ [] = sym (append-nil rest) ∙ ap (λ x. rest ++ x) (sym nothing) ∙ whole ∙ sym (append-nil (header head)) in
      absurd (no_head rest known (head_at d.place d.line rest known s.at) first head [] is_head begins)

  too_large : (head : Head) → (known ≡ None) × IsHead head × (rest ++ take n octets ≡ header head) → d.max < head.size → Breaks Rule.Size (last_number (modulo_2_64 (d.used + n))) d.max (fed_of fed frames rest known) (take n octets)
  too_large head f above =
      let some : 0 < n = some_taken head f.0 f.1 f.2 _ refl in
      let before : List ℕ = take (n - 1) octets in
      let octet : ℕ = get_or octets (n - 1) 0 in
      let one : n - 1 + 1 ≡ n = omega arith in
      let taken : take n octets ≡ before ++ octet ∷ [] = subst (λ k. take k octets ≡ before ++ octet ∷ []) one (take_more octets (n - 1) 0 (omega arith)) in
      let line : (rest ++ before) ++ octet ∷ [] ≡ header head = append_assoc rest before (octet ∷ []) ∙ ap (λ x. rest ++ x) (sym taken) ∙ f.2 in
      let whole : (fed ++ before) ++ octet ∷ [] ≡ flat_map spelling frames ++ header head = ap (λ x. x ++ octet ∷ []) (grown before) ∙ append_assoc (flat_map spelling frames) (rest ++ before) (octet ∷ []) ∙ ap (λ x. flat_map spelling frames ++ x) line in
      record { before = before; octet = octet; taken_is = taken; place_is = last_of before octet taken; stream = stream_to before (unfinished_header (rest ++ before) octet head f.1 line); is_head = subst (IsHeadOf (rest ++ before)) (sym f.0) (not_whole head (rest ++ before) octet f.1 line); by = inr (inr (refl, head, f.1, above, whole)) }

  left_then : modulo_2_64 (d.left + n) ≡ modulo_2_64 (length rest + n)
  left_then = modulo-more d.left n (length rest) s.left

  is_broken : (rule : Rule) → HasStopped (broken_by (moved d place line n) rule) rule (last_number (modulo_2_64 (d.used + n))) (modulo_2_64 (length rest + n))
  is_broken rule = record { by = refl; left_is = left_then }

  decodes_head : (head : Head) → (known ≡ None) × IsHead head × (rest ++ take n octets ≡ header head) → (b : Bool) → nat_lt d.max head.size ≡ b
      → Answers (cond b (Step.Broken Rule.Size (last_number (modulo_2_64 (d.used + n)))) (Step.Head head)) (cond b (broken_by (moved d place line n) Rule.Size) (record (moved d place line n) { place = after_header head.size })) (fed_of fed frames rest known) octets n
  decodes_head head f true e =
      let above : d.max < head.size = grind (arith, nat_tests) in
      (too_large head f above, is_broken Rule.Size)
  decodes_head head f false e =
      let small : head.size ≤ d.max = grind (arith, nat_tests) in
      gives_head head f small

  -- what is answered is what was found
  decodes : (found : Found) → Finds found place line rest known octets n → Answers (step_of (moved d place line n) found) (after_found (moved d place line n) found) (fed_of fed frames rest known) octets n
  decodes Found.More f = gives_more f
  decodes (Found.Head head) f = decodes_head head f _ refl
  decodes Found.Frame f = gives_frame f
  decodes (Found.Seq seq) f = gives_seq seq f
  decodes Found.BadLine f = (dies_line f, is_broken Rule.Header)
  decodes Found.BadTrailer f = (dies_trailer f, is_broken Rule.Trailer)

  pub decodes_as : (found : Found) (step : Step) (new : TrackerState) → step ≡ step_of (moved d place line n) found → new ≡ after_found (moved d place line n) found → Finds found place line rest known octets n → Answers step new (fed_of fed frames rest known) octets n
  decodes_as found step new e g f =
      subst (λ x. Answers x new (fed_of fed frames rest known) octets n) (sym e) (subst (λ x. Answers (step_of (moved d place line n) found) x (fed_of fed frames rest known) octets n) (sym g) (decodes found f))

max_by : (d : TrackerState) (head : Head) (b : Bool) → (cond b (broken_by d Rule.Size) (record d { place = after_header head.size })).max ≡ d.max
max_by d head true = refl
max_by d head false = refl

-- the limit stays
pub max-after_found : (d : TrackerState) (found : Found) → (after_found d found).max ≡ d.max
max-after_found d Found.More = refl
max-after_found d (Found.Head head) = max_by d head (nat_lt d.max head.size)
max-after_found d Found.Frame = refl
max-after_found d (Found.Seq seq) = refl
max-after_found d Found.BadLine = refl
max-after_found d Found.BadTrailer = refl
