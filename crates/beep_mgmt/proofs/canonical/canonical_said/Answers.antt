use Rattle.beep_mgmt.proofs.CanonicalLemmas.{said_in, writable_in}
use Rattle.beep_mgmt.proofs.canonical.canonical_said.Goals as goal

pub returns-in-Some-clause-value : goal.returns-in-Some-clause-value
returns-in-Some-clause-value c =
    said_in c.args.payload.now c.in-Some.text.now c.in-Some.ensures c.element_said.result c.element_said.ensures

pub returns-in-Some-clause-writable : goal.returns-in-Some-clause-writable
returns-in-Some-clause-writable c = writable_in c.in-Some.text.now c.element_said.result c.element_said.ensures
