use Rattle.beep_text.proofs.LawLemmas.{one_value}
use Rattle.beep_text.proofs.laws.a_body_says_one_element.Goals as goal

pub returns : goal.returns
returns c = one_value
