use Rattle.beep_management.specs.beep_journal.specs.Broken.{none_tunes}
use Rattle.beep_upright.proofs.HeadLemmas.{head-lawful}
use Rattle.beep_upright.proofs.FrameLemmas.{frame-lawful}
use Rattle.beep_upright.proofs.LawLemmas.{with-frame}
use Rattle.beep_upright.proofs.laws.a_frame_that_goes_out_is_lawful.Goals as goal

pub returns : goal.returns
returns c = record {
  header = λ terms most journal given taken old new head payload m s e x u going piece fits.
      head-lawful terms most journal given taken old new head payload m s e x.spoken x.prepared x.is u going piece fits;
  frame = λ terms most journal given taken old new head payload m s e x u going.
      frame-lawful terms most journal given taken old new head payload m s e x.spoken x.prepared x.is u going;
  journal = λ terms most journal given taken old new head payload m s e x u going piece fits lawful.
      with-frame terms none_tunes journal lawful head payload
      (head-lawful terms most journal given taken old new head payload m s e x.spoken x.prepared x.is u going piece fits)
      (frame-lawful terms most journal given taken old new head payload m s e x.spoken x.prepared x.is u going);
}
