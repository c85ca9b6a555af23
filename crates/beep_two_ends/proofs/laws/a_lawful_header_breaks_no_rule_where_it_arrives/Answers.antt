use Rattle.beep_two_ends.proofs.WorldLemmas.{head_arrives}
use Rattle.beep_two_ends.proofs.laws.a_lawful_header_breaks_no_rule_where_it_arrives.Goals as goal

pub returns : goal.returns
returns c = record {
  rule = λ mine theirs head l w l2 w2 s h. (head_arrives mine theirs head l w l2 w2 s h).1;
  free = λ mine theirs head l w l2 w2 s h. (head_arrives mine theirs head l w l2 w2 s h).0;
}
