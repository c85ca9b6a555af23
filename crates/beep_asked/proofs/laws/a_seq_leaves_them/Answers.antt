use Rattle.beep_asked.proofs.LawsLemmas.{seq-leaves}
use Rattle.beep_asked.proofs.laws.a_seq_leaves_them.Goals as goal

pub returns : goal.returns
returns c = seq-leaves
