use Rattle.beep_spoken.proofs.SpokenLemmas.{spoken-more}
use Rattle.beep_spoken.proofs.laws.what_is_given_is_spoken.Goals as goal

pub returns : goal.returns
returns c = spoken-more
