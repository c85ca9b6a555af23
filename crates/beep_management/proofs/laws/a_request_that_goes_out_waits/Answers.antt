use Rattle.beep_management.proofs.SentLemmas.{some-acts, request-waits, request-still}
use Rattle.beep_management.proofs.laws.a_request_that_goes_out_waits.Goals as goal

pub returns : goal.returns
returns c = record {
  acts = λ size lives journal given taken channels m head payload managed s zero last request.
      some-acts size lives journal given taken channels head payload s zero last m managed.spoken managed.prepared managed.is request;
  waits = λ size lives journal given taken channels m head payload live later one mine acts managed s zero last request says split rest more room. record {
    spoken = managed.spoken;
    prepared = managed.prepared;
    is = request-waits size lives journal given taken channels head payload s zero last m managed.spoken managed.prepared managed.is request live later one mine acts says split rest more room;
  };
  moves = λ size lives journal given taken channels head payload s zero last request. request-still size lives journal given taken channels head payload s zero last request;
}
