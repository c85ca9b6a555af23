use Rattle.beep_mgmt.proofs.SaidLemmas.{said-message}
use Rattle.beep_mgmt.proofs.laws.the_value_said_is_that_of_the_message.Goals as goal

pub returns : goal.returns
returns c = said-message c.the_element_said_is_that_of_the_body.ensures
