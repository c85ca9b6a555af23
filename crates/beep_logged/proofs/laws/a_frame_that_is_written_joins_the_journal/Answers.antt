use Rattle.beep_logged.proofs.WriteLemmas.{frame-written}
use Rattle.beep_logged.proofs.laws.a_frame_that_is_written_joins_the_journal.Goals as goal

pub returns : goal.returns
returns c = λ terms rest journal log head payload l is_frame is. frame-written terms rest journal log head payload l is_frame is
