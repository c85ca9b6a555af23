-- What goes out joins what is to be written.
use Rattle.std.proofs.Common.{◌≡◌, List}
use Rattle.beep_steps.specs.beep_journal.specs.Log.{Moment, put_all}
use Rattle.beep_sender.specs.Sender.{plan_of, StandsBy}
use Rattle.beep_sender.proofs.sender.SenderEnd.gather.Given as goal

abbrev pub invariant-loop : goal.invariant-loop
invariant-loop l = record {
  plan : plan_of l.self ≡ plan_of l.fn.self;
  scripted : (log : List Moment) → StandsBy l.fn.self (put_all l.fn.out.octets log) → StandsBy l.self (put_all l.out.octets log);
}
