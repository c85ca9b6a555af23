use Rattle.beep_replies.proofs.StayLemmas.{talk-grows, marks-grow}
use Rattle.beep_replies.proofs.laws.what_is_said_only_grows.Goals as goal

pub returns : goal.returns
returns c = record { said = talk-grows; marks = marks-grow }
