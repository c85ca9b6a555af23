use Rattle.prof_raw.proofs.EntryLemmas.{joined-entries}
use Rattle.prof_raw.proofs.laws.a_body_has_one_list_of_entries.Goals as goal

pub returns : goal.returns
returns c = joined-entries
