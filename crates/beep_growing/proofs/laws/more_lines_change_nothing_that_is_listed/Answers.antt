use Rattle.beep_growing.proofs.GrowLemmas.{desk-more}
use Rattle.beep_growing.proofs.laws.more_lines_change_nothing_that_is_listed.Goals as goal

pub returns : goal.returns
returns c = desk-more
