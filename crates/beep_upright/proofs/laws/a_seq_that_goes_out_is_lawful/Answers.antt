use Rattle.beep_management.specs.beep_journal.specs.Broken.{none_tunes}
use Rattle.beep_upright.proofs.SeqLemmas.{seq-lawful}
use Rattle.beep_upright.proofs.LawLemmas.{with-seq}
use Rattle.beep_upright.proofs.laws.a_seq_that_goes_out_is_lawful.Goals as goal

pub returns : goal.returns
returns c = record {
  seq = λ terms journal given taken old new seq s e greeted lawful idle going.
      seq-lawful terms journal given taken old new seq s e greeted lawful idle going;
  journal = λ terms journal given taken old new seq s e greeted lawful idle going.
      with-seq terms none_tunes journal lawful seq (seq-lawful terms journal given taken old new seq s e greeted lawful idle going);
}
