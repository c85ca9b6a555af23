use Rattle.beep_two_ends.proofs.OctetsLemmas.{always_alive}
use Rattle.beep_two_ends.proofs.laws.what_begins_the_frames_of_an_end_is_alive.Goals as goal

pub returns : goal.returns
returns c = always_alive
