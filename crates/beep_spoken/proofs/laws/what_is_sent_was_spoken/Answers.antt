use Rattle.beep_spoken.proofs.SpokenLemmas.{sent-first}
use Rattle.beep_spoken.proofs.laws.what_is_sent_was_spoken.Goals as goal

pub returns : goal.returns
returns c = λ spoken given unsent journal keeps s all. sent-first spoken given unsent journal keeps s all
