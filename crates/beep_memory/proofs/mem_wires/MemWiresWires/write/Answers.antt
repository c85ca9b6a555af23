use Rattle.beep_memory.proofs.MeetLemmas.{write-open, write-end, write-failed, write-unfailed, write-kept, write-counted, write-others, write-counts}
use Rattle.beep_memory.proofs.mem_wires.MemWiresWires.write.Goals as goal

pub returns-clause-still_open : goal.returns-clause-still_open
returns-clause-still_open c =
    write-open c.args.self.now c.write_link.new.self c.args.link c.args.bytes.now c.requires.alive c.write_link.result c.write_link.ensures.writes

pub returns-clause-end : goal.returns-clause-end
returns-clause-end c =
    write-end c.args.self.now c.write_link.new.self c.args.link c.args.bytes.now c.requires.alive c.write_link.result c.write_link.ensures.writes

pub returns-clause-failed : goal.returns-clause-failed
returns-clause-failed c =
    write-failed c.args.self.now c.write_link.new.self c.args.link c.args.bytes.now c.requires.alive c.requires.unfailed c.write_link.result c.write_link.ensures.writes

pub returns-clause-unfailed : goal.returns-clause-unfailed
returns-clause-unfailed c =
    write-unfailed c.args.self.now c.write_link.new.self c.args.link c.args.bytes.now c.requires.alive c.write_link.result c.write_link.ensures.writes

pub returns-clause-kept : goal.returns-clause-kept
returns-clause-kept c =
    write-kept c.args.self.now c.write_link.new.self c.args.link c.args.bytes.now c.requires.alive c.write_link.result c.write_link.ensures.writes

pub returns-clause-counted : goal.returns-clause-counted
returns-clause-counted c =
    write-counted c.args.self.now c.write_link.new.self c.args.link c.args.bytes.now c.requires.alive c.write_link.result c.write_link.ensures.writes

pub returns-clause-others : goal.returns-clause-others
returns-clause-others c =
    write-others c.args.self.now c.write_link.new.self c.args.link c.args.bytes.now c.requires.alive c.write_link.result c.write_link.ensures.writes

pub returns-clause-same_counts : goal.returns-clause-same_counts
returns-clause-same_counts c =
    write-counts c.args.self.now c.write_link.new.self c.args.link c.args.bytes.now c.requires.alive c.write_link.result c.write_link.ensures.writes
