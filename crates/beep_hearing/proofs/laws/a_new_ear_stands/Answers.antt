use Rattle.std.proofs.Common.{ℕ, List, [], refl, sym, subst}
use Rattle.std.proofs.lemmas.Grind.{merely}
use Rattle.beep_standing.specs.beep_channel.specs.Held.{Live}
use Rattle.beep_standing.specs.beep_lives.specs.Edits.{AreNew}
use Rattle.beep_standing.specs.Standing.{AreLiveBy, no_marks}
use Rattle.beep_standing.proofs.NewLemmas.{new-session}
use Rattle.beep_hearing.specs.declared.ear.Ear.{Ear}
use Rattle.beep_hearing.specs.Hears.{Hears, IsEar}
use Rattle.beep_hearing.proofs.laws.a_new_ear_stands.Goals as goal

new-ear : (size : ℕ) (ear : Ear) (channels : List Live) → Hears [] [] [] ear → AreNew size channels → IsEar size [] [] [] no_marks no_marks ear channels
new-ear size ear channels hears new = record {
  hears = hears;
  live = subst (λ (ls : List Live). AreLiveBy size [] no_marks no_marks ls) (sym new.alone) (new-session size new.zero new.number new.stands);
  zero = refl;
}

pub returns : goal.returns
returns c = record {
  empty = new-ear;
  reached = λ size ear channels hears new going none. merely (size, [], [], [], no_marks, no_marks, new-ear size ear channels hears new);
}
