use Rattle.std.proofs.Common.{[], ◌∷◌, ◌++◌}
use Rattle.beep_management.proofs.GivenLemmas.{request-given}
use Rattle.beep_management.proofs.laws.a_request_that_is_given_is_kept.Goals as goal

pub returns : goal.returns
returns c = λ size journal given m kept one message fresh mine acts managed kind tag octets says said implied starts acts-are mine-are room. record {
  spoken = managed.spoken ++ one ∷ [];
  prepared = managed.prepared;
  is = request-given size journal given m managed.spoken managed.prepared managed.is one message kept fresh mine acts kind tag octets says said implied starts acts-are mine-are room;
}
