use Rattle.beep_asked.proofs.LawsLemmas.{part-events, part-leaves}
use Rattle.beep_asked.proofs.laws.a_part_leaves_them.Goals as goal

pub returns : goal.returns
returns c = record {
  waiting = λ side by head payload zero requests part w. part-leaves head payload zero part side by requests w;
  moments = λ by head payload zero part. part-events head payload zero part by;
}
