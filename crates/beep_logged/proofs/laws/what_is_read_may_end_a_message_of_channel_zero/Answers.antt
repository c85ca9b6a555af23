use Rattle.beep_logged.proofs.ReadLemmas.{read-waits}
use Rattle.beep_logged.proofs.laws.what_is_read_may_end_a_message_of_channel_zero.Goals as goal

pub returns : goal.returns
returns c = λ terms fed rest octets journal gained log old used size given taken head payload ear channels l was j quiet unreleased w.
    read-waits terms fed rest octets journal gained log old used l was j quiet unreleased size given taken head payload ear channels w
