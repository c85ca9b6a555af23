use Rattle.beep_replies.proofs.BeganLemmas.{sender-began}
use Rattle.beep_replies.proofs.laws.a_sender_s_life_began_with_its_profile.Goals as goal

pub returns : goal.returns
returns c = sender-began
