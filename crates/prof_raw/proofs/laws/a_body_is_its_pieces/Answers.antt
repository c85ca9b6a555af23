use Rattle.prof_raw.proofs.PieceLemmas.{joined-pieces}
use Rattle.prof_raw.proofs.EntryLemmas.{pieces-each}
use Rattle.prof_raw.proofs.laws.a_body_is_its_pieces.Goals as goal

pub returns-clause-joined : goal.returns-clause-joined
returns-clause-joined c = joined-pieces

pub returns-clause-each : goal.returns-clause-each
returns-clause-each c = pieces-each
