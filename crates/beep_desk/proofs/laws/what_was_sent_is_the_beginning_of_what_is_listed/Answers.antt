use Rattle.beep_desk.proofs.TagLemmas.{begins-listed, begins-within}
use Rattle.beep_desk.proofs.laws.what_was_sent_is_the_beginning_of_what_is_listed.Goals as goal

pub returns-clause-between : goal.returns-clause-between
returns-clause-between c plan size count journal given taken peer placed none s d = begins-listed plan journal placed none size given taken peer s d count

pub returns-clause-within : goal.returns-clause-within
returns-clause-within c plan size count item journal given taken peer placed none s w = begins-within plan item journal placed none size given taken peer s w count
