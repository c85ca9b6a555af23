use Rattle.beep_pair.proofs.ActLemmas.{act-left}
use Rattle.beep_pair.proofs.deed.act_on.Goals as goal

pub returns-clause-ready : goal.returns-clause-ready
returns-clause-ready c = (act-left c.args.act c.args.n c.args.octets.now c.args.session.now c.answered.new.session c.in_ok-answer.answer c.requires.ready c.in_ok-answer.ensures.answered).ready

pub returns-clause-role : goal.returns-clause-role
returns-clause-role c = (act-left c.args.act c.args.n c.args.octets.now c.args.session.now c.answered.new.session c.in_ok-answer.answer c.requires.ready c.in_ok-answer.ensures.answered).role
