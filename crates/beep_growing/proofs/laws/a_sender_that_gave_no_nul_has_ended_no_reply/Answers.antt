use Rattle.beep_growing.proofs.LifeLemmas.{unended-on, unended-within}
use Rattle.beep_growing.proofs.laws.a_sender_that_gave_no_nul_has_ended_no_reply.Goals as goal

pub returns-clause-on : goal.returns-clause-on
returns-clause-on c = unended-on

pub returns-clause-within : goal.returns-clause-within
returns-clause-within c = unended-within
