use Rattle.beep_replies.proofs.LogLemmas.{kept-comes, kept-goes}
use Rattle.beep_replies.proofs.laws.a_kept_script_stays_whatever_comes.Goals as goal

pub returns : goal.returns
returns c = record { comes = kept-comes; goes = kept-goes }
