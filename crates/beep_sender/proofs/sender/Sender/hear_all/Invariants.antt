-- The octets so far are used, and each event uses one at least.
use Rattle.std.proofs.Common.{◌≡◌, ◌≤◌, List, length, take}
use Rattle.beep_steps.specs.beep_journal.specs.Log.{Moment, got_all}
use Rattle.beep_steps.specs.beep_talk.specs.declared.plan.Command.{Command}
use Rattle.beep_steps.specs.Refusing.{IsUnrefused}
use Rattle.beep_sender.specs.Sender.{plan_of, AsksBy, ScriptsBy, SendsBy}
use Rattle.beep_sender.proofs.sender.Sender.hear_all.Given as goal

abbrev pub invariant-loop : goal.invariant-loop
invariant-loop l = record {
  within : l.at ≤ length l.bytes;
  plan : plan_of l.self ≡ plan_of l.fn.self;
  sends : (log : List Moment) → SendsBy l.fn.self log → SendsBy l.self (got_all (take l.at l.bytes) log);
  scripted : (log : List Moment) → ScriptsBy l.fn.self log → ScriptsBy l.self (got_all (take l.at l.bytes) log);
  asking : (log : List Moment) → AsksBy l.fn.self log → AsksBy l.self (got_all (take l.at l.bytes) log);
  closing : l.self.is_closing ≡ l.fn.self.is_closing;
  unrefused : (log : List Moment) → SendsBy l.fn.self log → IsUnrefused Command.Send l.fn.self.is_closing log
      → IsUnrefused Command.Send l.fn.self.is_closing (got_all (take l.at l.bytes) log);
  more : (log : List Moment) → SendsBy l.fn.self log → l.counter ≤ l.at;
}
