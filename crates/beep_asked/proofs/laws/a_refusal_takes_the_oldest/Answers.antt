use Rattle.beep_asked.proofs.LawsLemmas.{refusal-theirs, refusal-mine, refusal-moves, refusal-releases}
use Rattle.beep_asked.proofs.laws.a_refusal_takes_the_oldest.Goals as goal

pub returns : goal.returns
returns c = record {
  theirs = λ by head payload zero later one r w refused. refusal-theirs by head payload zero r later one w refused;
  mine = λ by head payload zero later requests one r w refused v. refusal-mine by head payload zero r later one w refused requests v;
  moves = λ by head payload zero later one r w refused. refusal-moves by head payload zero r later one w refused;
  released = λ by head payload zero later one r w refused. refusal-releases by head payload zero r later one w refused;
}
