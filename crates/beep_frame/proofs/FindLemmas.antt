-- What a decoder's places become, by what was found.
use Rattle.std.proofs.Common.{◌≡◌, ℕ, ◌+◌, ◌-◌, ◌<◌, ◌≤◌, Option, None, List, [], ◌∷◌, ◌++◌, length, take, drop, get_or, refl, ap, sym, ◌∙◌, arith, subst, append_assoc, append-nil, length-append, length-drop, take-append-drop}
use Rattle.std.proofs.lemmas.List.{take_more, take_all, take-take, length-take-le, get_or-take, get_or-drop}
use Rattle.std.proofs.Math.Seq.{take-add}
use Rattle.beep_frame.specs.declared.head.Head.{Head}
use Rattle.beep_frame.specs.declared.seq.Seq.{Seq}
use Rattle.beep_frame.specs.declared.line.Line.{Line}
use Rattle.beep_frame.specs.declared.finder.Place.{Place}
use Rattle.beep_frame.specs.declared.finder.Found.{Found}
use Rattle.beep_frame.specs.Frame.{IsHead, IsSeq, seq_frame}
use Rattle.beep_frame.specs.Spelling.{header, trailer, spelling}
use Rattle.beep_frame.specs.Line.{at_line, at_head, at_seq, dead, line_start, line_turn, IsTurn}
use Rattle.beep_frame.specs.Reading.{run, At, PayloadOf, StopsAt, TakesLine}
use Rattle.beep_frame.specs.Finding.{Finds, EndsInLine, EndsInTrailer, EndsFrame, DiesInLine, DiesInTrailer}
use Rattle.beep_frame.proofs.RunLemmas.{run-append}
use Rattle.beep_frame.proofs.LineLemmas.{reads}

-- ---- in a line

module _ (old : Line) (rest octets : List ℕ) (known : Option Head) (n : ℕ) (at : At Place.Line old rest known) where
  -- the octets since the last whole frame lead where these octets lead from the line
  onward : run (at_line line_start) (rest ++ take n octets) ≡ run (at_line old) (take n octets)
  onward = run-append (at_line line_start) rest (take n octets) ∙ ap (λ t. run t (take n octets)) at.0

  line_more : (new : Line) → at_line new ≡ run (at_line old) (take n octets) → n ≡ length octets → (n ≡ length octets) × At Place.Line new (rest ++ octets) known
  line_more new e all =
      let same : take n octets ≡ octets = take_all n octets (omega arith) in
      (all, (rw same at onward ∙ sym (rw same at e), at.1))

  line_head : (head : Head) → at_head head ≡ run (at_line old) (take n octets) → (known ≡ None) × IsHead head × (rest ++ take n octets ≡ header head)
  line_head head e = let r = reads (at_head head) (rest ++ take n octets) (onward ∙ sym e) in (at.1, r.0, sym r.1)

  line_seq : (seq : Seq) → at_seq seq ≡ run (at_line old) (take n octets) → (known ≡ None) × IsSeq seq × (rest ++ take n octets ≡ spelling (seq_frame seq))
  line_seq seq e = let r = reads (at_seq seq) (rest ++ take n octets) (onward ∙ sym e) in (at.1, r.0, sym r.1)

  line_bad : dead ≡ run (at_line old) (take n octets) → n ≤ length octets → StopsAt old octets n → EndsInLine rest known (take n octets)
  line_bad e within s =
      let one : n - 1 + 1 ≡ n = omega (arith, s.some) in
      let c : ℕ = get_or octets (n - 1) 0 in
      let taken : take n octets ≡ take (n - 1) octets ++ c ∷ [] = rw one at (take_more octets (n - 1) 0 (omega (arith, s.some))) in
      let last : run (at_line old) (take n octets) ≡ line_turn s.before c = ap (run (at_line old)) taken ∙ run-append (at_line old) (take (n - 1) octets) (c ∷ []) ∙ ap (λ t. run t (c ∷ [])) s.inside in
      let inside : run (at_line line_start) (rest ++ take (n - 1) octets) ≡ at_line s.before = run-append (at_line line_start) rest (take (n - 1) octets) ∙ ap (λ t. run t (take (n - 1) octets)) at.0 ∙ s.inside in
      record { none = at.1; before = take (n - 1) octets; octet = c; taken_is = taken; dies = record { line = s.before; inside = inside; dies = sym last ∙ sym e } }

  -- what the octets of a line lead to is found
  pub line_finds : (found : Found) (new : Line) → IsTurn found new (run (at_line old) (take n octets)) → n ≤ length octets → TakesLine found old octets n
      → Finds found Place.Line new rest known octets n
  line_finds Found.More new turn within takes = line_more new turn takes
  line_finds (Found.Head head) new turn within takes = line_head head turn
  line_finds Found.Frame new turn within takes = absurd turn
  line_finds (Found.Seq seq) new turn within takes = line_seq seq turn
  line_finds Found.BadLine new turn within takes = line_bad turn within takes
  line_finds Found.BadTrailer new turn within takes = absurd turn

-- ---- in a trailer

module _ (rest octets : List ℕ) (known : Option Head) (at m : ℕ) (head : Head) (payload : List ℕ) (p : PayloadOf rest known head (payload ++ take at trailer)) (sized : length payload ≡ head.size) (within : at + m ≤ 5) (same : take m octets ≡ take m (take (5 - at) (drop at trailer))) where
  joined : take at trailer ++ take m octets ≡ take (at + m) trailer
  joined = ap (λ x. take at trailer ++ x) (same ∙ take-take m (5 - at) (drop at trailer) (omega arith)) ∙ sym (take-add at m trailer)

  -- the octets with these
  grown : rest ++ take m octets ≡ header head ++ (payload ++ take (at + m) trailer)
  grown =
      ap (λ x. x ++ take m octets) p.rest_is ∙ append_assoc (header head) (payload ++ take at trailer) (take m octets) ∙ ap (λ x. header head ++ x) (append_assoc payload (take at trailer) (take m octets) ∙ ap (λ x. payload ++ x) joined)

  pub trailer_more : (line : Line) → m ≡ length octets → at + m < 5 → (m ≡ length octets) × At (Place.Trailer (at + m)) line (rest ++ octets) known
  trailer_more line all fewer =
      let whole : rest ++ octets ≡ header head ++ (payload ++ take (at + m) trailer) = subst (λ x. rest ++ x ≡ header head ++ (payload ++ take (at + m) trailer)) (take_all m octets (omega arith)) grown in
      (all, (head, payload, record { known_is = p.known_is; is_head = p.is_head; rest_is = whole }, sized, fewer))

  pub trailer_end : at + m ≡ 5 → EndsFrame (rest ++ take m octets) known
  trailer_end all =
      let five : take (at + m) trailer ≡ trailer = take_all (at + m) trailer (omega arith) in
      record { head = head; payload = payload; known_is = p.known_is; is_frame = (p.is_head, sized); whole = grown ∙ ap (λ x. header head ++ (payload ++ x)) five ∙ sym (append_assoc (header head) payload trailer) }

  pub trailer_bad : at + m < 5 → m < length octets → (get_or octets m 0 ≡ get_or (take (5 - at) (drop at trailer)) m 0 → ⊥) → EndsInTrailer rest known (take (m + 1) octets)
  trailer_bad fewer some other =
      let place : get_or (take (5 - at) (drop at trailer)) m 0 ≡ get_or trailer (at + m) 0 = get_or-take (5 - at) (drop at trailer) m 0 (omega arith) ∙ get_or-drop at trailer m 0 in
      let dies : DiesInTrailer (rest ++ take m octets) (get_or octets m 0) = record { head = head; payload = payload; count = at + m; is_frame = (p.is_head, sized); fewer = fewer; whole = grown ∙ sym (append_assoc (header head) payload (take (at + m) trailer)); other = λ e. other (e ∙ sym place) } in
      record { before = take m octets; octet = get_or octets m 0; taken_is = take_more octets m 0 some; dies = dies; known_is = p.known_is }

-- ---- in a payload

module _ (rest octets : List ℕ) (known : Option Head) (left : ℕ) (head : Head) (payload : List ℕ) (p : PayloadOf rest known head payload) (sized : length payload + left ≡ head.size) where
  payload_grown : (n : ℕ) → PayloadOf (rest ++ take n octets) known head (payload ++ take n octets)
  payload_grown n =
      record { known_is = p.known_is; is_head = p.is_head; rest_is = ap (λ x. x ++ take n octets) p.rest_is ∙ append_assoc (header head) payload (take n octets) }

  pub payload_more : (line : Line) → length octets < left → (length octets ≡ length octets) × At (Place.Payload (left - length octets)) line (rest ++ octets) known
  payload_more line fewer =
      let whole : PayloadOf (rest ++ octets) known head (payload ++ octets) = subst (λ x. PayloadOf (rest ++ x) known head (payload ++ x)) (take_all (length octets) octets (omega arith)) (payload_grown (length octets)) in
      (refl, (head, payload ++ octets, whole, omega (arith, length-append payload octets), omega arith))

  -- the payload is whole, and none of its trailer came
  pub payload_whole : (line : Line) → left ≤ length octets → At (Place.Trailer 0) line (rest ++ take left octets) known
  payload_whole line enough =
      let grown : PayloadOf (rest ++ take left octets) known head ((payload ++ take left octets) ++ []) = subst (λ x. PayloadOf (rest ++ take left octets) known head x) (sym (append-nil (payload ++ take left octets))) (payload_grown left) in
      (head, payload ++ take left octets, grown, omega (arith, length-append payload (take left octets), length-take-le left octets enough), omega arith)

-- ---- after a payload

module _ (rest octets tail : List ℕ) (left n : ℕ) (enough : left ≤ length octets) (e : tail ≡ take (length octets - left) (drop left octets)) where
  tail_is : tail ≡ drop left octets
  tail_is = e ∙ take_all (length octets - left) (drop left octets) (omega (arith, length-drop left octets))

  used : take left octets ++ take n tail ≡ take (left + n) octets
  used = ap (λ x. take left octets ++ take n x) tail_is ∙ sym (take-add left n octets)

  beyond : (rest ++ take left octets) ++ take n tail ≡ rest ++ take (left + n) octets
  beyond = append_assoc rest (take left octets) (take n tail) ∙ ap (λ x. rest ++ x) used

  all_after : (rest ++ take left octets) ++ tail ≡ rest ++ octets
  all_after = append_assoc rest (take left octets) tail ∙ ap (λ x. rest ++ x) (ap (λ x. take left octets ++ x) tail_is ∙ take-append-drop left octets)

  taken_after : (before : List ℕ) (octet : ℕ) → take n tail ≡ before ++ octet ∷ [] → take (left + n) octets ≡ (take left octets ++ before) ++ octet ∷ []
  taken_after before octet h = sym used ∙ ap (λ x. take left octets ++ x) h ∙ sym (append_assoc (take left octets) before (octet ∷ []))

  -- what was found after a payload's octets was found after the rest
  pub shifted : (found : Found) (place : Place) (line : Line) (known : Option Head) → Finds found place line (rest ++ take left octets) known tail n → Finds found place line rest known octets (left + n)
  shifted Found.More place line known f =
      (omega (arith, f.0, ap length tail_is, length-drop left octets), subst (λ x. At place line x known) all_after f.1)
  shifted (Found.Head head) place line known f = (f.0, f.1, sym beyond ∙ f.2)
  shifted Found.Frame place line known f = subst (λ x. EndsFrame x known) beyond f
  shifted (Found.Seq seq) place line known f = (f.0, f.1, sym beyond ∙ f.2)
  shifted Found.BadLine place line known f =
      record { none = f.none; before = take left octets ++ f.before; octet = f.octet; taken_is = taken_after f.before f.octet f.taken_is; dies = subst (λ x. DiesInLine x f.octet) (append_assoc rest (take left octets) f.before) f.dies }
  shifted Found.BadTrailer place line known f =
      let whole : rest ++ (take left octets ++ f.before) ≡ header f.dies.head ++ f.dies.payload ++ take f.dies.count trailer = sym (append_assoc rest (take left octets) f.before) ∙ f.dies.whole in
      let dies : DiesInTrailer (rest ++ (take left octets ++ f.before)) f.octet = record { head = f.dies.head; payload = f.dies.payload; count = f.dies.count; is_frame = f.dies.is_frame; fewer = f.dies.fewer; whole = whole; other = f.dies.other } in
      record { before = take left octets ++ f.before; octet = f.octet; taken_is = taken_after f.before f.octet f.taken_is; dies = dies; known_is = f.known_is }
