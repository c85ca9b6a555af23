use Rattle.beep_desk.proofs.StepLemmas.{desk-stuck}
use Rattle.beep_desk.proofs.laws.what_is_owed_is_held_back.Goals as goal

pub returns : goal.returns
returns c = desk-stuck
