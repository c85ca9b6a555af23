use Rattle.beep_upright.proofs.BoundLemmas.{head-bound, seq-bound}
use Rattle.beep_upright.proofs.laws.what_goes_out_is_a_frame_or_a_seq.Goals as goal

pub returns : goal.returns
returns c = record {
  frame = λ terms most journal given taken old new head payload s e lawful are fits. head-bound terms most journal given taken old new head payload s e lawful are fits;
  seq = λ terms journal given taken old new seq s e lawful fits. seq-bound terms journal given taken old new seq s e lawful fits;
}
