use Rattle.beep_journal.proofs.LifeLemmas.{one-life}
use Rattle.beep_journal.proofs.laws.an_item_belongs_to_one_life.Goals as goal

pub returns : goal.returns
returns c = one-life
