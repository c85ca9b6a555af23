use Rattle.beep_standing.proofs.DueLemmas.{sent-there, sent-next, told-next, told-due}
use Rattle.beep_standing.proofs.laws.what_is_sent_is_lawful.Goals as goal

pub returns : goal.returns
returns c = record {
  there = sent-there;
  frame = sent-next;
  due = told-due;
  seq = told-next;
}
