use Rattle.beep_asked.proofs.LawsLemmas.{grant-theirs, grant-mine, grant-moves, grant-releases}
use Rattle.beep_asked.proofs.laws.a_grant_takes_the_oldest.Goals as goal

pub returns : goal.returns
returns c = record {
  theirs = λ by head payload zero later one r w granted. grant-theirs by head payload zero r later one w granted;
  mine = λ by head payload zero later requests one r w granted v. grant-mine by head payload zero r later one w granted requests v;
  moves = λ by head payload zero live later one r w says granted. grant-moves by head payload zero r later one w granted live says;
  released = λ by head payload zero later one r w granted. grant-releases by head payload zero r later one w granted;
}
