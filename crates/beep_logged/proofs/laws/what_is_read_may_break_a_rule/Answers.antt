use Rattle.beep_logged.proofs.ReadLemmas.{read-breaks}
use Rattle.beep_logged.proofs.laws.what_is_read_may_break_a_rule.Goals as goal

pub returns : goal.returns
returns c = λ terms fed rest octets journal log old used rule place size given taken ear channels l was unreleased b.
    read-breaks terms fed rest octets journal log old used l was unreleased rule place size given taken ear channels b
