use Rattle.beep_journal.proofs.LifeLemmas.{header-of-live, seq-of-live}
use Rattle.beep_journal.proofs.laws.a_header_belongs_to_the_life_that_is_live.Goals as goal

pub returns : goal.returns
returns c = record { header = header-of-live; seq = seq-of-live }
