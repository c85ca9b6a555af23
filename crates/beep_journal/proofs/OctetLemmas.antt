-- What an octet can be in a session: one thing alone.
use Rattle.std.proofs.Common.{◌≡◌, ℕ, List, [], ◌∷◌, ◌++◌, length, replicate, refl, sym, ap, ◌∙◌, append_assoc}
use Rattle.std.specs.List.{flat_map, AllByRecursion}
use Rattle.std.proofs.lemmas.Grind.{flat_map-append}
use Rattle.std.proofs.lemmas.List.{append-nil, length-replicate}
use Rattle.beep_frame.specs.declared.head.Head.{Head}
use Rattle.beep_frame.specs.Frame.{Frame, framed, IsHead, IsFrame}
use Rattle.beep_frame.specs.Spelling.{spelling, header, trailer}
use Rattle.beep_frame.specs.Stream.{Stream, IsUnfinished, IsAlive, DiesAt}
use Rattle.beep_frame.specs.Line.{at_head, at_line, line_start}
use Rattle.beep_frame.specs.Reading.{run}
use Rattle.beep_frame.proofs.WholeLemmas.{header_runs}
use Rattle.beep_frame.proofs.AliveLemmas.{unfinished_line}
use Rattle.beep_frame.proofs.StreamLemmas.{same_frame}
use Rattle.beep_frame.proofs.DeadLemmas.{no_frame_alone}

-- ---- a header is less than a frame

unfinished_with : (x : List ℕ) (h : Head) (payload : List ℕ) → IsHead h → length payload ≡ h.size → x ≡ header h → IsUnfinished x
unfinished_with x h [] w size e =
    record {
      frame = framed h [];
      is_frame = (w, size);
      next = 69;
      others = 78 ∷ 68 ∷ 13 ∷ 10 ∷ [];
      spelled = append_assoc (header h) [] trailer ∙ ap (λ y. y ++ trailer) (sym e);
    }
unfinished_with x h (octet ∷ payload) w size e =
    record {
      frame = framed h (octet ∷ payload);
      is_frame = (w, size);
      next = octet;
      others = payload ++ trailer;
      spelled = append_assoc (header h) (octet ∷ payload) trailer ∙ ap (λ y. y ++ ((octet ∷ payload) ++ trailer)) (sym e);
    }

pub unfinished_head : (x : List ℕ) (h : Head) → IsHead h → x ≡ header h → IsUnfinished x
unfinished_head x h w e = unfinished_with x h (replicate h.size 0) w (length-replicate h.size 0) e

-- ---- two things at once

pub one_header : (h g : Head) → IsHead h → IsHead g → header h ≡ header g → h ≡ g
one_header h g w v e =
    let same : at_head h ≡ at_head g = sym (header_runs h w) ∙ ap (run (at_line line_start)) e ∙ header_runs g v in cc same

pub one_frame : (f g : Frame) → IsFrame f → IsFrame g → spelling f ≡ spelling g → f ≡ g
one_frame f g w v e = (same_frame f g [] [] w v (append-nil (spelling f) ∙ e ∙ sym (append-nil (spelling g)))).0

pub no_frame_of : (f : Frame) (x : List ℕ) → IsFrame f → IsUnfinished x → x ≡ spelling f → ⊥
no_frame_of f x w u e = no_frame_alone f x [] w u (e ∙ sym (append-nil (spelling f)))

-- ---- where the stream is alive

alive_rest : (frames : List Frame) (all rest : List ℕ) (octet : ℕ) → AllByRecursion IsFrame frames → all ≡ flat_map spelling frames
    → IsUnfinished (rest ++ octet ∷ []) → IsAlive ((all ++ rest) ++ octet ∷ [])
alive_rest frames all rest octet each e u =
    let whole : (all ++ rest) ++ octet ∷ [] ≡ flat_map spelling frames ++ (rest ++ octet ∷ []) = append_assoc all rest (octet ∷ []) ∙ ap (λ x. x ++ (rest ++ octet ∷ [])) e in
    let stream : Stream ((all ++ rest) ++ octet ∷ []) frames (rest ++ octet ∷ []) = record { whole = whole; each = each; unfinished = u } in
    (frames, rest ++ octet ∷ [], stream)

all_with : (frames : List Frame) (f : Frame) → AllByRecursion IsFrame frames → IsFrame f → AllByRecursion IsFrame (frames ++ f ∷ [])
all_with [] f each w = (w, tt)
all_with (g ∷ frames) f each w = (each.0, all_with frames f each.1 w)

alive_whole : (frames : List Frame) (all rest : List ℕ) (octet : ℕ) (f : Frame) → AllByRecursion IsFrame frames → all ≡ flat_map spelling frames
    → IsFrame f → rest ++ octet ∷ [] ≡ spelling f → IsAlive ((all ++ rest) ++ octet ∷ [])
alive_whole frames all rest octet f each e w whole =
    let octets : (all ++ rest) ++ octet ∷ [] ≡ flat_map spelling (frames ++ f ∷ []) ++ [] =
    append_assoc all rest (octet ∷ []) ∙ ap (λ x. x ++ (rest ++ octet ∷ [])) e ∙ ap (λ x. flat_map spelling frames ++ x) (whole ∙ sym (append-nil (spelling f)))
    ∙ sym (flat_map-append spelling frames (f ∷ [])) ∙ sym (append-nil (flat_map spelling (frames ++ f ∷ []))) in
    let stream : Stream ((all ++ rest) ++ octet ∷ []) (frames ++ f ∷ []) [] = record { whole = octets; each = all_with frames f each w; unfinished = unfinished_line [] line_start refl } in
    (frames ++ f ∷ [], [], stream)

pub no_death : (frames : List Frame) (all rest : List ℕ) (octet : ℕ) → AllByRecursion IsFrame frames → all ≡ flat_map spelling frames
    → IsUnfinished (rest ++ octet ∷ []) → DiesAt (all ++ rest) octet → ⊥
no_death frames all rest octet each e u dies = dies.dead (alive_rest frames all rest octet each e u)

pub no_whole_death : (frames : List Frame) (all rest : List ℕ) (octet : ℕ) (f : Frame) → AllByRecursion IsFrame frames → all ≡ flat_map spelling frames
    → IsFrame f → rest ++ octet ∷ [] ≡ spelling f → DiesAt (all ++ rest) octet → ⊥
no_whole_death frames all rest octet f each e w whole dies = dies.dead (alive_whole frames all rest octet f each e w whole)
