-- What an octet is after those of a side since its last whole frame: it goes on, ends one of three
-- things, or is dead.
use Rattle.std.proofs.Common.{◌≡◌, ℕ, zero, suc, ◌+◌, ◌<◌, ◌⊎◌, inl, inr, Bool, true, false, ◌==◌, nat_lt, List, [], ◌∷◌, ◌++◌, length, take, get_or, Option, None, Some, refl, sym, ap, ◌∙◌, arith, append_assoc, append-nil, length-append}
use Rattle.std.proofs.lemmas.List.{take_more, take_all, length-take-le}
use Rattle.std.proofs.lemmas.Bool.Decides.{nat_tests}
use Rattle.beep_frame.specs.declared.head.Head.{Head}
use Rattle.beep_frame.specs.declared.seq.Seq.{Seq}
use Rattle.beep_frame.specs.declared.line.Line.{Line}
use Rattle.beep_frame.specs.declared.finder.Place.{Place}
use Rattle.beep_frame.specs.Frame.{framed, seq_frame, IsHead, IsFrame, IsSeq}
use Rattle.beep_frame.specs.Spelling.{spelling, header, trailer}
use Rattle.beep_frame.specs.Stream.{IsUnfinished}
use Rattle.beep_frame.specs.Line.{Turn, at_line, at_head, at_seq, dead, line_start, line_turn}
use Rattle.beep_frame.specs.Reading.{run, At}
use Rattle.beep_frame.specs.Finding.{DiesInLine, DiesInTrailer}
use Rattle.beep_frame.proofs.RunLemmas.{run-append, run-dead}
use Rattle.beep_frame.proofs.LineLemmas.{reads}
use Rattle.beep_frame.proofs.WholeLemmas.{header_runs}
use Rattle.beep_frame.proofs.AliveLemmas.{unfinished_line, unfinished_payload, unfinished_trailer, no_line_after_header}

-- ---- where octets lead

-- these octets lead to some place in a frame
abbrev pub IsAt : List ℕ → Type 0
IsAt rest = (place : Place) × (line : Line) × (known : Option Head) × At place line rest known

-- no octets are a line's start
pub at_start : IsAt []
at_start = (Place.Line, line_start, None, (refl, refl))

-- a header and this of its payload, and so many octets of it are still to come
at_payload : (rest : List ℕ) (head : Head) (payload : List ℕ) (left : ℕ) → IsHead head → rest ≡ header head ++ payload → length payload + left ≡ head.size → IsAt rest
at_payload rest head payload zero w e sized =
    (Place.Trailer 0, line_start, Some head, (head, payload, record { known_is = refl; is_head = w; rest_is = e ∙ ap (λ x. header head ++ x) (sym (append-nil payload)) }, omega arith, omega arith))
at_payload rest head payload (suc left) w e sized =
    (Place.Payload (suc left), line_start, Some head, (head, payload, record { known_is = refl; is_head = w; rest_is = e }, sized, omega arith))

-- ---- what an octet can be

-- it goes on, and ends neither a header nor a frame
pub record Goes (rest : List ℕ) (octet : ℕ) : Type 0 where
  pub unfinished : IsUnfinished (rest ++ octet ∷ [])
  pub no_header : (head : Head) → IsHead head → rest ++ octet ∷ [] ≡ header head → ⊥
  pub at : IsAt (rest ++ octet ∷ [])

-- it ends a header
pub record HeaderEnds (rest : List ℕ) (octet : ℕ) : Type 0 where
  pub head : Head
  pub is_head : IsHead head
  pub whole : rest ++ octet ∷ [] ≡ header head
  pub at : IsAt (rest ++ octet ∷ [])

-- it ends a data frame
pub record FrameEnds (rest : List ℕ) (octet : ℕ) : Type 0 where
  pub head : Head
  pub payload : List ℕ
  pub is_frame : IsFrame (framed head payload)
  pub whole : rest ++ octet ∷ [] ≡ spelling (framed head payload)

-- it ends a SEQ
pub record SeqEnds (rest : List ℕ) (octet : ℕ) : Type 0 where
  pub seq : Seq
  pub is_seq : IsSeq seq
  pub whole : rest ++ octet ∷ [] ≡ spelling (seq_frame seq)

-- it is one of these
abbrev pub Next : List ℕ → ℕ → Type 0
Next rest octet =
    Goes rest octet ⊎ HeaderEnds rest octet ⊎ FrameEnds rest octet ⊎ SeqEnds rest octet ⊎ DiesInLine rest octet ⊎ DiesInTrailer rest octet

-- ---- which of them it is

-- what is longer than a header is no header
longer : (head other : Head) (more : List ℕ) → IsHead head → IsHead other → 0 < length more → header head ++ more ≡ header other → ⊥
longer head other [] w v some e = absurd (omega (arith, some))
longer head other (c ∷ m) w v some e =
    let two : dead ≡ at_head other = sym (run-dead m) ∙ ap (λ t. run t (c ∷ m)) (sym (header_runs head w)) ∙ sym (run-append (at_line line_start) (header head) (c ∷ m)) ∙ ap (run (at_line line_start)) e ∙ header_runs other v in
    cc

module _ (rest : List ℕ) (octet : ℕ) where
  abbrev all : List ℕ
  all = rest ++ octet ∷ []

  -- ---- in a line

  module _ (line : Line) (inside : run (at_line line_start) rest ≡ at_line line) where
    onward : run (at_line line_start) all ≡ line_turn line octet
    onward = run-append (at_line line_start) rest (octet ∷ []) ∙ ap (λ t. run t (octet ∷ [])) inside

    -- by where the line's turn leads
    in_line : (t : Turn) → line_turn line octet ≡ t → Next rest octet
    in_line (at_line next) e =
        let there : run (at_line line_start) all ≡ at_line next = onward ∙ e in
        inl (record {
          unfinished = unfinished_line all next there;
          no_header = λ head w whole. no_line_after_header head [] next w (ap (run (at_line line_start)) (append-nil (header head) ∙ sym whole) ∙ there);
          at = (Place.Line, next, None, (there, refl));
        })
    in_line (at_head head) e =
        let is = reads (at_head head) all (onward ∙ e) in
        let begun : all ≡ header head ++ [] = sym is.1 ∙ sym (append-nil (header head)) in
        inr (inl (record { head = head; is_head = is.0; whole = sym is.1; at = at_payload all head [] head.size is.0 begun (omega arith) }))
    in_line (at_seq seq) e =
        let is = reads (at_seq seq) all (onward ∙ e) in
        inr (inr (inr (inl (record { seq = seq; is_seq = is.0; whole = sym is.1 }))))
    in_line dead e = inr (inr (inr (inr (inl (record { line = line; inside = inside; dies = e })))))

  -- ---- in a payload

  in_payload : (head : Head) (payload : List ℕ) (left : ℕ) → IsHead head → rest ≡ header head ++ payload → length payload + left ≡ head.size → 0 < left → Next rest octet
  in_payload head payload zero w e sized some = absurd (omega (arith, some))
  in_payload head payload (suc left) w e sized some =
      let now : List ℕ = payload ++ octet ∷ [] in
      let grown : all ≡ header head ++ now = ap (λ x. x ++ octet ∷ []) e ∙ append_assoc (header head) payload (octet ∷ []) in
      let count : length now + left ≡ head.size = omega (arith, sized, length-append payload (octet ∷ [])) in
      let more : 0 < length now = omega (arith, length-append payload (octet ∷ [])) in
      inl (record {
        unfinished = unfinished left now grown count;
        no_header = λ other v whole. longer head other now w v more (sym grown ∙ whole);
        at = at_payload all head now left w grown count;
      })
    where
      unfinished : (left : ℕ) (now : List ℕ) → all ≡ header head ++ now → length now + left ≡ head.size → IsUnfinished all
      unfinished zero now grown count = unfinished_trailer all head now 0 (w, omega arith) (omega arith) (grown ∙ sym (append-nil (header head ++ now)))
      unfinished (suc left) now grown count = unfinished_payload all head now (suc left) w grown count (omega arith)

  -- ---- in a trailer

  module _ (head : Head) (payload : List ℕ) (count : ℕ) (w : IsHead head) (e : rest ≡ header head ++ (payload ++ take count trailer)) (sized : length payload ≡ head.size) (fewer : count < 5) where
    -- with the trailer's next octet
    grown : octet ≡ get_or trailer count 0 → all ≡ header head ++ (payload ++ take (count + 1) trailer)
    grown same =
        ap (λ x. x ++ octet ∷ []) e ∙ append_assoc (header head) (payload ++ take count trailer) (octet ∷ []) ∙ ap (λ x. header head ++ x) (append_assoc payload (take count trailer) (octet ∷ []))
        ∙ ap (λ o. header head ++ (payload ++ (take count trailer ++ o ∷ []))) same ∙ ap (λ x. header head ++ (payload ++ x)) (sym (take_more trailer count 0 fewer))

    -- the trailer's next octet
    in_place : octet ≡ get_or trailer count 0 → (b : Bool) → nat_lt (count + 1) 5 ≡ b → Next rest octet
    in_place same true is =
        let within : count + 1 < 5 = grind (arith, nat_tests) in
        let whole : all ≡ (header head ++ payload) ++ take (count + 1) trailer = grown same ∙ sym (append_assoc (header head) payload (take (count + 1) trailer)) in
        let long : length (take (count + 1) trailer) ≡ count + 1 = length-take-le (count + 1) trailer (omega arith) in
        let more : 0 < length (payload ++ take (count + 1) trailer) = omega (arith, long, length-append payload (take (count + 1) trailer)) in
        inl (record {
          unfinished = unfinished_trailer all head payload (count + 1) (w, sized) within whole;
          no_header = λ other v is_whole. longer head other (payload ++ take (count + 1) trailer) w v more (sym (grown same) ∙ is_whole);
          at = (Place.Trailer (count + 1), line_start, Some head, (head, payload, record { known_is = refl; is_head = w; rest_is = grown same }, sized, within));
        })
    in_place same false is =
        let last : 5 ≡ count + 1 = grind (arith, nat_tests) in
        let whole : all ≡ spelling (framed head payload) = grown same ∙ ap (λ x. header head ++ (payload ++ x)) (take_all (count + 1) trailer (omega arith)) ∙ sym (append_assoc (header head) payload trailer) in
        inr (inr (inl (record { head = head; payload = payload; is_frame = (w, sized); whole = whole })))

    in_trailer : (b : Bool) → (octet == get_or trailer count 0) ≡ b → Next rest octet
    in_trailer true is = in_place (grind (arith, nat_tests)) (nat_lt (count + 1) 5) refl
    in_trailer false is =
        let other : octet ≡ get_or trailer count 0 → ⊥ = grind (arith, nat_tests) in
        let whole : rest ≡ (header head ++ payload) ++ take count trailer = e ∙ sym (append_assoc (header head) payload (take count trailer)) in
        inr (inr (inr (inr (inr (record { head = head; payload = payload; count = count; is_frame = (w, sized); fewer = fewer; whole = whole; other = other })))))

  -- ---- wherever the octets lead

  next_at : (place : Place) (line : Line) (known : Option Head) → At place line rest known → Next rest octet
  next_at Place.Line line known at = in_line line at.0 (line_turn line octet) refl
  next_at (Place.Payload left) line known at = in_payload at.0 at.1 left at.2.is_head at.2.rest_is at.3 at.4
  next_at (Place.Trailer count) line known at =
      in_trailer at.0 at.1 count at.2.is_head at.2.rest_is at.3 at.4 (octet == get_or trailer count 0) refl

  pub next : IsAt rest → Next rest octet
  next at = next_at at.0 at.1 at.2 at.3
