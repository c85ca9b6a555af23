use Rattle.std.specs.String.{string_bytes}
use Rattle.beep_wires.specs.Links.{accept}
use Rattle.beep_memory.proofs.MeetLemmas.{given-fresh, given-others}
use Rattle.beep_memory.proofs.mem_wires.MemWiresWires.accept.Goals as goal

pub returns-in-Ok-clause-fresh : goal.returns-in-Ok-clause-fresh
returns-in-Ok-clause-fresh c = given-fresh (accept (string_bytes c.in-Ok.bind) c.args.port) c.args.self.now c.give.new.self c.give.ensures.before c.give.result c.give.ensures.answers

pub returns-in-Ok-clause-others : goal.returns-in-Ok-clause-others
returns-in-Ok-clause-others c = given-others (accept (string_bytes c.in-Ok.bind) c.args.port) c.args.self.now c.give.new.self c.give.ensures.before c.give.result c.give.ensures.answers
