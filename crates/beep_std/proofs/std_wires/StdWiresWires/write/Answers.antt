use Rattle.beep_std.proofs.MeetLemmas.{write-open, write-end, write-failed, write-unfailed, write-kept, write-counted, write-others, write-counts}
use Rattle.beep_std.proofs.std_wires.StdWiresWires.write.Goals as goal

pub returns-clause-still_open : goal.returns-clause-still_open
returns-clause-still_open g c = write-open c.args.self.now c.write_link.new.self c.args.link c.requires.alive c.write_link.result c.write_link.ensures.after

pub returns-clause-end : goal.returns-clause-end
returns-clause-end g c = write-end c.args.self.now c.write_link.new.self c.args.link c.requires.alive c.write_link.result c.write_link.ensures.after

pub returns-clause-failed : goal.returns-clause-failed
returns-clause-failed g c = write-failed c.args.self.now c.write_link.new.self c.args.link c.requires.alive c.write_link.result c.write_link.ensures.after c.requires.unfailed

pub returns-clause-unfailed : goal.returns-clause-unfailed
returns-clause-unfailed g c = write-unfailed c.args.self.now c.write_link.new.self c.args.link c.requires.alive c.write_link.result c.write_link.ensures.after

pub returns-clause-kept : goal.returns-clause-kept
returns-clause-kept g c = write-kept c.args.self.now c.write_link.new.self c.args.link c.requires.alive c.write_link.result c.write_link.ensures.after c.requires.unfailed

pub returns-clause-counted : goal.returns-clause-counted
returns-clause-counted g c = write-counted c.args.self.now c.write_link.new.self c.args.link c.requires.alive c.write_link.result c.write_link.ensures.after

pub returns-clause-others : goal.returns-clause-others
returns-clause-others g c = write-others c.args.self.now c.write_link.new.self c.args.link c.requires.alive c.write_link.result c.write_link.ensures.after

pub returns-clause-same_counts : goal.returns-clause-same_counts
returns-clause-same_counts g c = write-counts c.args.self.now c.write_link.new.self c.args.link c.requires.alive c.write_link.result c.write_link.ensures.after
