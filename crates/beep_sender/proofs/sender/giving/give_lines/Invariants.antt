-- Each answer leaves a sender that stands for a log, whose next line is the next.
use Rattle.std.proofs.Common.{◌≡◌, ◌≤◌, ◌-◌, length}
use Rattle.beep_steps.specs.beep_session.specs.Lending.{answering_number, answering_session}
use Rattle.beep_steps.specs.beep_session.specs.Lawfully.{terms_of}
use Rattle.beep_steps.specs.beep_talk.specs.Plan.{PlainPlan}
use Rattle.beep_sender.specs.declared.sender.TheConstants.{CHANNEL}
use Rattle.beep_steps.specs.Scripting.{KeepsScripting}
use Rattle.beep_steps.specs.Sending.{at_next, KeepsSending, Progress}
use Rattle.beep_sender.specs.Asking.{KeepsAsking}
use Rattle.beep_sender.proofs.sender.giving.give_lines.Given as goal

abbrev pub invariant-loop-next : goal.invariant-loop-next
invariant-loop-next l = record {
  same : (answering_session l.answering).ghost_name ≡ (answering_session l.fn.answering).ghost_name;
  number : answering_number l.answering ≡ answering_number l.fn.answering;
  terms : terms_of (answering_session l.answering).now ≡ terms_of (answering_session l.fn.answering).now;
  sends : (plan : PlainPlan) (p : Progress) → plan.lines ≡ l.lines → p.next ≡ l.fn.next → answering_number l.fn.answering ≡ CHANNEL
      → KeepsSending plan p (at_next l.next p) (answering_session l.fn.answering).now (answering_session l.answering).now;
  scripted : (plan : PlainPlan) (p : Progress) → plan.lines ≡ l.lines → p.next ≡ l.fn.next → answering_number l.fn.answering ≡ CHANNEL
      → KeepsScripting plan p (at_next l.next p) (answering_session l.fn.answering).now (answering_session l.answering).now;
  asking : (plan : PlainPlan) → KeepsAsking plan (answering_session l.fn.answering).now (answering_session l.answering).now;
  from : l.fn.next ≤ l.next;
  still : l.next ≤ l.fn.next → (answering_session l.answering).now ≡ (answering_session l.fn.answering).now;
}

abbrev pub decreases-loop-next : goal.decreases-loop-next
decreases-loop-next l = length l.lines - l.next
