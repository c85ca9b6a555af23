use Rattle.beep_standing.proofs.ArriveLemmas.{idle-each, is-each}
use Rattle.beep_standing.proofs.ZeroLemmas.{begun-zero}
use Rattle.beep_standing.proofs.laws.a_frame_under_way_is_in_its_channel.Goals as goal

pub returns : goal.returns
returns c = record {
  none = λ size lives journal given taken channels n c s none at. idle-each size lives journal given taken channels s none n c at;
  same = λ size lives journal given taken channels n c head s at begun. is-each size lives journal given taken channels s n c head at begun;
  zero = begun-zero;
}
