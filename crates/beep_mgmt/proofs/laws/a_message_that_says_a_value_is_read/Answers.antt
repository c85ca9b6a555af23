use Rattle.beep_mgmt.proofs.MessageLemmas.{read_unless}
use Rattle.beep_mgmt.proofs.laws.a_message_that_says_a_value_is_read.Goals as goal

pub returns : goal.returns
returns c payload form error says within refused = read_unless c.a_body_says_one_element.ensures c.a_body_stops_nowhere.ensures payload form error says within refused
