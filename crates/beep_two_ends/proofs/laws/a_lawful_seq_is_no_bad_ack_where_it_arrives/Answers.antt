use Rattle.beep_two_ends.proofs.WorldLemmas.{seq_arrives}
use Rattle.beep_two_ends.proofs.laws.a_lawful_seq_is_no_bad_ack_where_it_arrives.Goals as goal

pub returns : goal.returns
returns c = seq_arrives
