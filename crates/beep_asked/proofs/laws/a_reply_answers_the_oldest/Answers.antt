use Rattle.std.proofs.Common.{[]}
use Rattle.beep_asked.proofs.LawsLemmas.{reply-waits, reply-said, reply-implied, reply-form}
use Rattle.beep_asked.proofs.laws.a_reply_answers_the_oldest.Goals as goal

pub returns : goal.returns
returns c = record {
  waits = λ by head zero requests r w. reply-waits by head [] zero r requests w;
  said = λ by head zero later one r w. reply-said by head [] zero r later one w;
  implied = λ by head zero later one r w. reply-implied by head [] zero r later one w;
  form = λ by head payload zero later one r w. reply-form by head payload zero r later one w;
}
