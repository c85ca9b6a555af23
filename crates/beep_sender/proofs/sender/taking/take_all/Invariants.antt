-- What was taken so far leaves what the session stands for.
use Rattle.std.proofs.Common.{◌≡◌, List, length}
use Rattle.beep_steps.specs.beep_journal.specs.Log.{Moment}
use Rattle.beep_steps.specs.beep_talk.specs.Plan.{PlainPlan}
use Rattle.beep_steps.specs.Desking.{DesksWithin}
use Rattle.beep_steps.specs.Logs.{StaysOn}
use Rattle.beep_steps.specs.Scripting.{KeepsScripting, ScriptedOn}
use Rattle.beep_steps.specs.Sending.{KeepsSending, Progress}
use Rattle.beep_sender.specs.Asking.{TakesFrame}
use Rattle.beep_sender.proofs.sender.taking.take_all.Given as goal

abbrev pub invariant-loop : goal.invariant-loop
invariant-loop l = record {
  stays : StaysOn l.fn.session l.session;
  sending : (plan : PlainPlan) (p : Progress) → KeepsSending plan p p l.fn.session l.session;
  scripted : (plan : PlainPlan) (p : Progress) → KeepsScripting plan p p l.fn.session l.session;
  asking : (plan : PlainPlan) (p : Progress) (log : List Moment) → ScriptedOn plan p l.fn.session log → DesksWithin plan l.fn.session log → DesksWithin plan l.session log;
  taking : (log : List Moment) → TakesFrame l.number 0 l.fn.session log → TakesFrame l.number l.counter l.session log;
  length_is : length l.buf ≡ length l.fn.buf;
}
