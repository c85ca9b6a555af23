use Rattle.beep_each_log.proofs.EachLemmas.{some-shown}
use Rattle.beep_each_log.proofs.laws.each_log_shows_a_session.Goals as goal

pub returns : goal.returns
returns c = some-shown
