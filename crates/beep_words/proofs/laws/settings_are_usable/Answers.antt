use Rattle.beep_words.proofs.UsableLemmas.{send_is_usable, listen_is_usable, pair_is_usable}
use Rattle.beep_words.proofs.laws.settings_are_usable.Goals as goal

pub returns-clause-sent : goal.returns-clause-sent
returns-clause-sent c = send_is_usable

pub returns-clause-listened : goal.returns-clause-listened
returns-clause-listened c = listen_is_usable

pub returns-clause-paired : goal.returns-clause-paired
returns-clause-paired c = pair_is_usable
