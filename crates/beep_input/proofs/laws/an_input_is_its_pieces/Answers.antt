use Rattle.beep_input.proofs.LineLemmas.{joined, each-piece}
use Rattle.beep_input.proofs.laws.an_input_is_its_pieces.Goals as goal

pub returns-clause-joined : goal.returns-clause-joined
returns-clause-joined c = joined

pub returns-clause-each : goal.returns-clause-each
returns-clause-each c = each-piece
