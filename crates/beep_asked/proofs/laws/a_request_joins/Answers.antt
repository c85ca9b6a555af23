use Rattle.beep_asked.proofs.LawsLemmas.{request-mine, request-theirs, request-moves, request-releases}
use Rattle.beep_asked.proofs.laws.a_request_joins.Goals as goal

pub returns : goal.returns
returns c = record {
  mine = λ by head payload zero live requests r says w. request-mine by head payload zero r live requests says w;
  theirs = λ by head payload zero requests r w. request-theirs by head payload zero r requests w;
  moves = request-moves;
  released = request-releases;
}
