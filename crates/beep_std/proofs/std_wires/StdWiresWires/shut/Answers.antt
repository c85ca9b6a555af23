use Rattle.beep_std.proofs.MeetLemmas.{shut-link, shut-others, shut-counts}
use Rattle.beep_std.proofs.std_wires.StdWiresWires.shut.Goals as goal

pub returns-clause-shut : goal.returns-clause-shut
returns-clause-shut g c = shut-link c.args.self.now c.shut_link.new.self c.args.link c.shut_link.ensures

pub returns-clause-others : goal.returns-clause-others
returns-clause-others g c = shut-others c.args.self.now c.shut_link.new.self c.args.link c.shut_link.ensures

pub returns-clause-same_counts : goal.returns-clause-same_counts
returns-clause-same_counts g c = shut-counts c.args.self.now c.shut_link.new.self c.args.link c.shut_link.ensures
