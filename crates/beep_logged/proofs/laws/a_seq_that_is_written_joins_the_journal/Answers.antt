use Rattle.beep_logged.proofs.WriteLemmas.{seq-written}
use Rattle.beep_logged.proofs.laws.a_seq_that_is_written_joins_the_journal.Goals as goal

pub returns : goal.returns
returns c = λ terms rest journal log seq l is_seq is. seq-written terms rest journal log seq l is_seq is
