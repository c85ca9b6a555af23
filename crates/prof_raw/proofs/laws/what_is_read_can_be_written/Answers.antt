use Rattle.prof_raw.proofs.EntryLemmas.{entries-each}
use Rattle.prof_raw.proofs.laws.what_is_read_can_be_written.Goals as goal

pub returns : goal.returns
returns c = entries-each
