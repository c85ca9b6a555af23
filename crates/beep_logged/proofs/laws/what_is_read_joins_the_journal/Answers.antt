use Rattle.beep_logged.proofs.ReadLemmas.{read-joins}
use Rattle.beep_logged.proofs.laws.what_is_read_joins_the_journal.Goals as goal

pub returns : goal.returns
returns c = λ terms fed rest octets after journal gained log old new used count l was now j quiet unreleased.
    read-joins terms fed rest octets journal gained log old used l was j quiet unreleased after new count now
