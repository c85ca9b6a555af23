use Rattle.prof_raw.proofs.EntryLemmas.{body-read, after_header-read}
use Rattle.prof_raw.proofs.laws.what_is_written_is_read.Goals as goal

pub returns-clause-whole : goal.returns-clause-whole
returns-clause-whole c = body-read

pub returns-clause-after_header : goal.returns-clause-after_header
returns-clause-after_header c = after_header-read
