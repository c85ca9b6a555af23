use Rattle.beep_memory.proofs.MeetLemmas.{read-open, read-end, read-failed, read-unfailed, read-kept, read-counted, read-others, read-counts}
use Rattle.beep_memory.proofs.mem_wires.MemWiresWires.read.Goals as goal

pub returns-clause-still_open : goal.returns-clause-still_open
returns-clause-still_open c =
    read-open c.args.self.now c.read_link.new.self c.args.link c.args.buf.now c.read_link.new.buf c.requires.alive c.read_link.result c.read_link.ensures.reads

pub returns-clause-end : goal.returns-clause-end
returns-clause-end c =
    read-end c.args.self.now c.read_link.new.self c.args.link c.args.buf.now c.read_link.new.buf c.requires.alive c.read_link.result c.read_link.ensures.reads

pub returns-clause-failed : goal.returns-clause-failed
returns-clause-failed c =
    read-failed c.args.self.now c.read_link.new.self c.args.link c.args.buf.now c.read_link.new.buf c.requires.alive c.requires.unfailed c.read_link.result c.read_link.ensures.reads

pub returns-clause-unfailed : goal.returns-clause-unfailed
returns-clause-unfailed c =
    read-unfailed c.args.self.now c.read_link.new.self c.args.link c.args.buf.now c.read_link.new.buf c.requires.alive c.read_link.result c.read_link.ensures.reads

pub returns-clause-kept : goal.returns-clause-kept
returns-clause-kept c =
    read-kept c.args.self.now c.read_link.new.self c.args.link c.args.buf.now c.read_link.new.buf c.requires.alive c.read_link.result c.read_link.ensures.reads

pub returns-clause-counted : goal.returns-clause-counted
returns-clause-counted c =
    read-counted c.args.self.now c.read_link.new.self c.args.link c.args.buf.now c.read_link.new.buf c.requires.alive c.read_link.result c.read_link.ensures.reads

pub returns-clause-others : goal.returns-clause-others
returns-clause-others c =
    read-others c.args.self.now c.read_link.new.self c.args.link c.args.buf.now c.read_link.new.buf c.requires.alive c.read_link.result c.read_link.ensures.reads

pub returns-clause-counts : goal.returns-clause-counts
returns-clause-counts c =
    read-counts c.args.self.now c.read_link.new.self c.args.link c.args.buf.now c.read_link.new.buf c.requires.alive c.read_link.result c.read_link.ensures.reads
