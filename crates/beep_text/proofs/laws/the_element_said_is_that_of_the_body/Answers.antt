use Rattle.beep_text.proofs.SaidLemmas.{said-body}
use Rattle.beep_text.proofs.laws.the_element_said_is_that_of_the_body.Goals as goal

pub returns : goal.returns
returns c = said-body
