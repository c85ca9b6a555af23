use Rattle.beep_mgmt.proofs.CanonicalLemmas.{okay_written}
use Rattle.beep_mgmt.proofs.canonical.okay_said.Goals as goal

pub returns-then-is : goal.returns-then-is
returns-then-is c = okay_written c.args.text.now (c.is.ensures c.if-is.true)
