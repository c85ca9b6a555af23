use Rattle.beep_text.proofs.LawLemmas.{lawful_value}
use Rattle.beep_text.proofs.laws.a_body_says_a_lawful_element.Goals as goal

pub returns : goal.returns
returns c = lawful_value
