use Rattle.beep_mgmt.proofs.SaidLemmas.{unsaid_where}
use Rattle.beep_mgmt.proofs.read.read_mgmt.Goals as goal

pub returns-clause-unsaid : goal.returns-clause-unsaid
returns-clause-unsaid c =
    unsaid_where c.the_value_said_is_that_of_the_message.ensures c.a_message_that_says_a_value_is_read.ensures c.args.payload.now c.read_value.result c.read_value.ensures.refused
