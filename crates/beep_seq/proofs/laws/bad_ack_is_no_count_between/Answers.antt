use Rattle.beep_seq.proofs.WireLemmas.{breaks_bad_ack-iff}
use Rattle.beep_seq.proofs.laws.bad_ack_is_no_count_between.Goals as goal

pub returns : goal.returns
returns c = breaks_bad_ack-iff
