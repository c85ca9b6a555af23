-- Where no frame can go on: an octet that a line or a trailer can't have.
use Rattle.std.proofs.Common.{◌≡◌, ℕ, zero, suc, ◌<◌, List, [], ◌∷◌, ◌++◌, length, take, get_or, inl, inr, ap, sym, ◌∙◌, arith, append_assoc, append-nil, length-append}
use Rattle.std.specs.List.{flat_map, AllByRecursion}
use Rattle.beep_frame.specs.declared.head.Head.{Head}
use Rattle.beep_frame.specs.Frame.{Frame, framed, seq_frame, IsFrame}
use Rattle.beep_frame.specs.Spelling.{header, trailer, spelling}
use Rattle.beep_frame.specs.Stream.{IsUnfinished}
use Rattle.beep_frame.specs.Line.{at_line, at_head, at_seq, dead, line_start}
use Rattle.beep_frame.specs.Reading.{run}
use Rattle.beep_frame.specs.Finding.{DiesInLine, DiesInTrailer}
use Rattle.beep_frame.proofs.RunLemmas.{run-append, run-dead}
use Rattle.beep_frame.proofs.StreamLemmas.{Overlap, overlap, line_of, tail_of, line_runs, no_more, not_dead, not_line, SameLine, same_line, same_length, same_frame, parted}

-- no frame's text, whatever follows it, goes on with this octet after these
abbrev pub NoFrame : List ℕ → ℕ → Type 0
NoFrame r c = (g : Frame) (y z : List ℕ) → IsFrame g → spelling g ++ y ≡ r ++ c ∷ z → ⊥

-- ---- in a line

module _ (r : List ℕ) (c : ℕ) (d : DiesInLine r c) (g : Frame) (w : IsFrame g) where
  after_it : (m : List ℕ) → run (at_line line_start) (r ++ c ∷ m) ≡ dead
  after_it m =
      run-append (at_line line_start) r (c ∷ m) ∙ ap (λ t. run t (c ∷ m)) d.inside ∙ ap (λ t. run t m) d.dies ∙ run-dead m

  no_line : (x z : List ℕ) → Overlap (line_of g) x r (c ∷ z) → ⊥
  no_line x z (inl ([], e, f)) = not_line g d.line (sym (line_runs g w) ∙ ap (run (at_line line_start)) (e ∙ append-nil r) ∙ d.inside)
  no_line x z (inl (k ∷ m, e, f)) =
      let same : c ≡ k = cc in
      not_dead g (sym (line_runs g w) ∙ ap (run (at_line line_start)) (e ∙ ap (λ o. r ++ o ∷ m) (sym same)) ∙ after_it m)
  no_line x z (inr (k, m, e, f)) =
      let dies : run (at_line line_start) r ≡ dead = ap (run (at_line line_start)) e ∙ run-append (at_line line_start) (line_of g) (k ∷ m) ∙ ap (λ t. run t (k ∷ m)) (line_runs g w) ∙ no_more g k m in
      let two : at_line d.line ≡ dead = sym d.inside ∙ dies in
      cc

pub no_frame_in_line : (r : List ℕ) (c : ℕ) → DiesInLine r c → NoFrame r c
no_frame_in_line r c d g y z w e = no_line r c d g w (tail_of g ++ y) z (overlap (line_of g) (tail_of g ++ y) r (c ∷ z) (parted g y ∙ e))

-- ---- in a trailer

trailer_at : (n c : ℕ) (y z : List ℕ) → n < 5 → trailer ++ y ≡ take n trailer ++ c ∷ z → c ≡ get_or trailer n 0
trailer_at zero c y z h e = cc
trailer_at (suc zero) c y z h e = cc
trailer_at (suc (suc zero)) c y z h e = cc
trailer_at (suc (suc (suc zero))) c y z h e = cc
trailer_at (suc (suc (suc (suc zero)))) c y z h e = cc
trailer_at (suc (suc (suc (suc (suc n))))) c y z h e = absurd (omega arith)

module _ (r : List ℕ) (c : ℕ) (d : DiesInTrailer r c) (y z : List ℕ) where
  -- after the header
  after_header : List ℕ
  after_header = (d.payload ++ take d.count trailer) ++ c ∷ z

  header_first : r ++ c ∷ z ≡ header d.head ++ ((d.payload ++ take d.count trailer) ++ c ∷ z)
  header_first =
      ap (λ x. x ++ c ∷ z) (d.whole ∙ append_assoc (header d.head) d.payload (take d.count trailer)) ∙ append_assoc (header d.head) (d.payload ++ take d.count trailer) (c ∷ z)

  no_data : (k : Head) (q : List ℕ) → IsFrame (framed k q) → SameLine (framed k q) (framed d.head d.payload) ((q ++ trailer) ++ y) ((d.payload ++ take d.count trailer) ++ c ∷ z) → ⊥
  no_data k q w s =
      let heads : k ≡ d.head = let e : at_head k ≡ at_head d.head = s.end in cc in
      let long : length q ≡ length d.payload = w.1 ∙ ap (λ (h : Head). h.size) heads ∙ sym d.is_frame.1 in
      let tails : q ++ (trailer ++ y) ≡ d.payload ++ (take d.count trailer ++ c ∷ z) = sym (append_assoc q trailer y) ∙ s.rest ∙ append_assoc d.payload (take d.count trailer) (c ∷ z) in
      let both = same_length q (trailer ++ y) d.payload (take d.count trailer ++ c ∷ z) long tails in
      d.other (trailer_at d.count c y z d.fewer both.1)

  no_frame_by : (g : Frame) → IsFrame g → SameLine g (framed d.head d.payload) (tail_of g ++ y) ((d.payload ++ take d.count trailer) ++ c ∷ z) → ⊥
  no_frame_by (framed k q) w s = no_data k q w s
  no_frame_by (seq_frame k) w s = let e : at_seq k ≡ at_head d.head = s.end in cc

pub no_frame_in_trailer : (r : List ℕ) (c : ℕ) → DiesInTrailer r c → NoFrame r c
no_frame_in_trailer r c d g y z w e =
    no_frame_by r c d y z g w (same_line g (framed d.head d.payload) (tail_of g ++ y) ((d.payload ++ take d.count trailer) ++ c ∷ z) w d.is_frame (parted g y ∙ e ∙ header_first r c d y z))

-- ---- in a stream

-- whole frames and less than one more don't begin with a frame alone
pub no_frame_alone : (f : Frame) (rest m : List ℕ) → IsFrame f → IsUnfinished rest → rest ≡ spelling f ++ m → ⊥
no_frame_alone f rest m w u e =
    let longer : spelling u.frame ++ [] ≡ spelling f ++ (m ++ u.next ∷ u.others) = append-nil (spelling u.frame) ∙ u.spelled ∙ ap (λ x. x ++ u.next ∷ u.others) e ∙ append_assoc (spelling f) m (u.next ∷ u.others) in
    let none : [] ≡ m ++ u.next ∷ u.others = (same_frame u.frame f [] (m ++ u.next ∷ u.others) u.is_frame w longer).1 in
    let counts : length {A = ℕ} [] ≡ length (m ++ u.next ∷ u.others) = ap length none in
    absurd (omega (arith, length-append m (u.next ∷ u.others)))

-- no stream is these frames, and then what no frame goes on with
pub dead_after : (frames fs : List Frame) (r rest : List ℕ) (c : ℕ) → AllByRecursion IsFrame frames → AllByRecursion IsFrame fs → IsUnfinished rest → NoFrame r c → flat_map spelling fs ++ rest ≡ flat_map spelling frames ++ (r ++ c ∷ []) → ⊥
dead_after [] [] r rest c a b u n e =
    n u.frame [] (u.next ∷ u.others) u.is_frame (append-nil (spelling u.frame) ∙ u.spelled ∙ ap (λ x. x ++ u.next ∷ u.others) e ∙ append_assoc r (c ∷ []) (u.next ∷ u.others))
dead_after [] (g ∷ fs) r rest c a b u n e =
    n g (flat_map spelling fs ++ rest) [] b.0 (sym (append_assoc (spelling g) (flat_map spelling fs) rest) ∙ e)
dead_after (f ∷ frames) [] r rest c a b u n e =
    no_frame_alone f rest (flat_map spelling frames ++ (r ++ c ∷ [])) a.0 u (e ∙ append_assoc (spelling f) (flat_map spelling frames) (r ++ c ∷ []))
dead_after (f ∷ frames) (g ∷ fs) r rest c a b u n e =
    let both = same_frame g f (flat_map spelling fs ++ rest) (flat_map spelling frames ++ (r ++ c ∷ [])) b.0 a.0 (sym (append_assoc (spelling g) (flat_map spelling fs) rest) ∙ e ∙ append_assoc (spelling f) (flat_map spelling frames) (r ++ c ∷ [])) in
    dead_after frames fs r rest c a.1 b.1 u n both.1
