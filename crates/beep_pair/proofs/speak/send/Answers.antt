use Rattle.beep_pair.proofs.ActLemmas.{sent}
use Rattle.beep_pair.proofs.speak.send.Goals as goal

pub returns-clause-ready : goal.returns-clause-ready
returns-clause-ready c = (sent c.args.max c.args.session.now c.say.new.session c.in_ok-emit.emit c.say.new.said.octets c.requires.ready c.in_ok-emit.ensures).ready

pub returns-clause-role : goal.returns-clause-role
returns-clause-role c = (sent c.args.max c.args.session.now c.say.new.session c.in_ok-emit.emit c.say.new.said.octets c.requires.ready c.in_ok-emit.ensures).role
