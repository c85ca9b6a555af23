use Rattle.beep_journal.proofs.LifeLemmas.{frame-of-header}
use Rattle.beep_journal.proofs.laws.a_frame_belongs_to_the_life_of_its_header.Goals as goal

pub returns : goal.returns
returns c = frame-of-header
