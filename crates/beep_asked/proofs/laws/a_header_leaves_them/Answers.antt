use Rattle.beep_asked.proofs.LawsLemmas.{header-leaves}
use Rattle.beep_asked.proofs.laws.a_header_leaves_them.Goals as goal

pub returns : goal.returns
returns c = header-leaves
