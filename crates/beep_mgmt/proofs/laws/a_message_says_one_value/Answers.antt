use Rattle.beep_mgmt.proofs.MessageLemmas.{one_value}
use Rattle.beep_mgmt.proofs.laws.a_message_says_one_value.Goals as goal

pub returns : goal.returns
returns c payload f g first second = one_value c.a_body_says_one_element.ensures payload f g first second
