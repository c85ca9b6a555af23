-- How a stream is read that begins with the spelling of a frame.
use Rattle.std.proofs.Common.{◌≡◌, [], ◌∷◌, ◌++◌, ap, sym, ◌∙◌, append_assoc}
use Rattle.std.specs.List.{flat_map}
use Rattle.beep_frame.specs.Spelling.{spelling}
use Rattle.beep_frame.specs.Laws.{ReadAsItsFrame, BeginsAStream}
use Rattle.beep_frame.proofs.StreamLemmas.{same_frame}
use Rattle.beep_frame.proofs.DeadLemmas.{no_frame_alone}

pub read_as_its_frame : ReadAsItsFrame
read_as_its_frame f more [] rest w s = absurd (no_frame_alone f rest more w s.unfinished (sym s.whole))
read_as_its_frame f more (g ∷ others) rest w s =
    let both = same_frame f g more (flat_map spelling others ++ rest) w s.each.0 (s.whole ∙ append_assoc (spelling g) (flat_map spelling others) rest) in
    let heads : g ≡ f = sym both.0 in
    (others, ap (λ h. h ∷ others) heads, record { whole = both.1; each = s.each.1; unfinished = s.unfinished })

pub begins_a_stream : BeginsAStream
begins_a_stream f more others rest w s =
    record { whole = ap (λ x. spelling f ++ x) s.whole ∙ sym (append_assoc (spelling f) (flat_map spelling others) rest); each = (w, s.each); unfinished = s.unfinished }
