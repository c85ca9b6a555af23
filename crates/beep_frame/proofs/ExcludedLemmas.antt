-- Answers that the clauses of the decoder exclude.
use Rattle.std.proofs.Common.{ℕ, None, List, ◌++◌, take, inl, inr, refl, sym, ◌∙◌, append_assoc}
use Rattle.beep_frame.specs.declared.rule.Rule.{Rule}
use Rattle.beep_frame.specs.Frame.{Frame}
use Rattle.beep_frame.specs.Spelling.{header, trailer}
use Rattle.beep_frame.specs.Stream.{BreaksBy}
use Rattle.beep_frame.specs.Decodes.{Breaks}
use Rattle.beep_frame.proofs.AliveLemmas.{one_reading, unfinished_trailer}
use Rattle.beep_frame.proofs.LawLemmas.{no_head}
use Rattle.beep_frame.specs.Fed.{fed_of}

-- no answer says that a trailer is broken before its header was answered
pub no_trailer_before_its_header : (place max : ℕ) (fed : List ℕ) (frames : List Frame) (rest taken : List ℕ) → Breaks Rule.Trailer place max (fed_of fed frames rest None) taken → ⊥
no_trailer_before_its_header place max fed frames rest taken b = by_cause b.by
  where
    by_cause : BreaksBy Rule.Trailer max (fed ++ b.before) frames b.octet → ⊥
    by_cause (inl w) = cc
    by_cause (inr (inl w)) =
        let t = w.2 in
        let place : List ℕ = (header t.head ++ t.payload) ++ take t.count trailer in
        let there = unfinished_trailer place t.head t.payload t.count t.is_frame t.fewer refl in
        let same = one_reading frames t.frames (rest ++ b.before) place b.stream.each t.each b.stream.unfinished there (sym b.stream.whole ∙ t.whole) in
        no_head (rest ++ b.before) None b.is_head refl t.head (t.payload ++ take t.count trailer) t.is_frame.0 (same.1 ∙ append_assoc (header t.head) t.payload (take t.count trailer))
    by_cause (inr (inr w)) = cc
