use Rattle.beep_logged.proofs.ReadLemmas.{quiet-logged, over-logged}
use Rattle.beep_logged.proofs.laws.a_quiet_read_and_an_end_leave_the_journal.Goals as goal

pub returns : goal.returns
returns c = record {
  quiet = λ terms rest journal log l. quiet-logged terms rest journal log l;
  end = λ terms rest journal log l. over-logged terms rest journal log l;
}
