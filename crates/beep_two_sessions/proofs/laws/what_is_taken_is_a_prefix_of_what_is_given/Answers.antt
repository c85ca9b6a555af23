use Rattle.beep_two_sessions.proofs.PrefixLemmas.{taken-at-a, taken-at-b}
use Rattle.beep_two_sessions.proofs.laws.what_is_taken_is_a_prefix_of_what_is_given.Goals as goal

pub returns : goal.returns
returns c = record {
  by_b = λ moves world n k r above pos. taken-at-b moves world r n k above pos;
  by_a = λ moves world n k r above pos. taken-at-a moves world r n k above pos;
}
