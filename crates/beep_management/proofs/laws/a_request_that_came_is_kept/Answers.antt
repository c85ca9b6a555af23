use Rattle.std.proofs.Common.{[], ◌∷◌, ◌++◌}
use Rattle.beep_management.proofs.ReceivedLemmas.{request-came}
use Rattle.beep_management.proofs.laws.a_request_that_came_is_kept.Goals as goal

pub returns : goal.returns
returns c = λ size journal given m head payload live kept answer one fresh theirs managed zero r says is prepares fit starts are. record {
  spoken = managed.spoken;
  prepared = managed.prepared ++ one ∷ [];
  is = request-came size journal given m head payload managed.spoken managed.prepared managed.is zero r live kept answer one fresh theirs says is prepares fit starts are;
}
