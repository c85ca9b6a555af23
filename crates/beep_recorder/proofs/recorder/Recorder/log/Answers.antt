-- What a recorder keeps is in order.
use Rattle.beep_recorder.proofs.KeptLemmas.{ordered-of}
use Rattle.beep_recorder.proofs.recorder.Recorder.log.Goals as goal

pub returns-clause-ordered : goal.returns-clause-ordered
returns-clause-ordered g c = ordered-of c.args.self.now.log.entries c.args.self.now.ordered
