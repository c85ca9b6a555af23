use Rattle.beep_two_sessions.proofs.ReplyLemmas.{replies-at-a, replies-at-b}
use Rattle.beep_two_sessions.proofs.laws.each_reply_answers_a_request_that_was_taken.Goals as goal

pub returns : goal.returns
returns c = record {
  by_b = λ moves world n k r above pos. replies-at-b moves world r n k above pos;
  by_a = λ moves world n k r above pos. replies-at-a moves world r n k above pos;
}
