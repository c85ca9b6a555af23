use Rattle.beep_standing.proofs.SendLemmas.{room-stays}
use Rattle.beep_standing.proofs.laws.room_changes_nothing.Goals as goal

pub returns : goal.returns
returns c = λ size number lives journal given taken old new made s e. room-stays size number lives journal given taken old new s made e
