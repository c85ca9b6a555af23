use Rattle.beep_management.proofs.GivenLemmas.{answer-given, answer-kind, owes-answers}
use Rattle.beep_management.proofs.laws.an_answer_that_is_given_is_spoken.Goals as goal

pub returns : goal.returns
returns c = record {
  given = λ size journal given m first answers message managed split tag octets.
      answer-given size journal given m first answers split message tag octets managed.spoken managed.prepared managed.is;
  kind = λ size journal given m first answers managed split. answer-kind size journal given m first answers split managed.spoken managed.prepared managed.is;
  owed = λ size journal given taken m channel managed s number all. owes-answers size journal given taken m channel managed.spoken managed.prepared managed.is s number all;
}
