use Rattle.beep_script.proofs.HeardLemmas.{last-answer}
use Rattle.beep_script.proofs.laws.what_is_written_is_of_one_whole_answer.Goals as goal

pub returns : goal.returns
returns c = last-answer
