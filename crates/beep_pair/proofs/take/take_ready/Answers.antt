use Rattle.beep_pair.proofs.ActLemmas.{took_part}
use Rattle.beep_pair.proofs.take.take_ready.Goals as goal

pub returns-clause-ready : goal.returns-clause-ready
returns-clause-ready c = (took_part c.args.n c.take_part-part.result c.take_part-part.new.buf c.args.session.now c.take_part-part.new.session c.requires.ready c.take_part-part.ensures).ready

pub returns-clause-role : goal.returns-clause-role
returns-clause-role c = (took_part c.args.n c.take_part-part.result c.take_part-part.new.buf c.args.session.now c.take_part-part.new.session c.requires.ready c.take_part-part.ensures).role
