use Rattle.beep_hearing.proofs.TextLemmas.{kept-says}
use Rattle.beep_hearing.proofs.laws.what_is_kept_says_the_whole.Goals as goal

pub returns : goal.returns
returns c = λ octets. kept-says octets
