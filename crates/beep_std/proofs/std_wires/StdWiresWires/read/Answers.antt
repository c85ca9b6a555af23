use Rattle.beep_std.proofs.MeetLemmas.{read-open, read-end, read-failed, read-unfailed, read-kept, read-counted, read-others, read-counts}
use Rattle.beep_std.proofs.std_wires.StdWiresWires.read.Goals as goal

pub returns-clause-still_open : goal.returns-clause-still_open
returns-clause-still_open g c = read-open c.args.self.now c.read_link.new.self c.args.link c.requires.alive c.read_link.result c.read_link.ensures.after

pub returns-clause-end : goal.returns-clause-end
returns-clause-end g c = read-end c.args.self.now c.read_link.new.self c.args.link c.requires.alive c.read_link.result c.read_link.ensures.after

pub returns-clause-failed : goal.returns-clause-failed
returns-clause-failed g c = read-failed c.args.self.now c.read_link.new.self c.args.link c.requires.alive c.read_link.result c.read_link.ensures.after c.requires.unfailed

pub returns-clause-unfailed : goal.returns-clause-unfailed
returns-clause-unfailed g c = read-unfailed c.args.self.now c.read_link.new.self c.args.link c.requires.alive c.read_link.result c.read_link.ensures.after

pub returns-clause-kept : goal.returns-clause-kept
returns-clause-kept g c = read-kept c.args.self.now c.read_link.new.self c.args.link c.requires.alive c.read_link.result c.read_link.ensures.after c.requires.unfailed

pub returns-clause-counted : goal.returns-clause-counted
returns-clause-counted g c = read-counted c.args.self.now c.read_link.new.self c.args.link c.requires.alive c.read_link.result c.read_link.ensures.after

pub returns-clause-others : goal.returns-clause-others
returns-clause-others g c = read-others c.args.self.now c.read_link.new.self c.args.link c.requires.alive c.read_link.result c.read_link.ensures.after

pub returns-clause-counts : goal.returns-clause-counts
returns-clause-counts g c = read-counts c.args.self.now c.read_link.new.self c.args.link c.requires.alive c.read_link.result c.read_link.ensures.after
