use Rattle.beep_spoken.proofs.SpokenLemmas.{next-said}
use Rattle.beep_spoken.proofs.laws.a_message_that_passes_says_what_was_spoken.Goals as goal

pub returns : goal.returns
returns c = λ spoken given unsent journal head payload keeps s all zero last. next-said spoken given unsent journal head payload keeps s all zero last
