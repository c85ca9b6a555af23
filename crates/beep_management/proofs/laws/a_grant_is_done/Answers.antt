use Rattle.beep_management.proofs.LivesLemmas.{says-live, grant-done}
use Rattle.beep_management.proofs.laws.a_grant_is_done.Goals as goal

pub returns : goal.returns
returns c = record { live = says-live; done = grant-done }
