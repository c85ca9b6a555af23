use Rattle.beep_served.proofs.ShownLemmas.{serves-on, served-before}
use Rattle.beep_served.proofs.laws.an_end_serves_on_whatever_comes.Goals as goal

pub returns : goal.returns
returns c = record { comes = serves-on; goes = served-before }
