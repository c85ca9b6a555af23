-- What was taken so far leaves what the session stands for.
use Rattle.std.proofs.Common.{◌≡◌, ◌≤◌, ◌++◌, ℕ, List}
use Rattle.beep_steps.specs.beep_journal.specs.Log.{Moment}
use Rattle.beep_steps.specs.beep_link.specs.Causes.{Grows, WithText}
use Rattle.beep_steps.specs.Logs.{StaysOn}
use Rattle.beep_steps.specs.Serving.{KeepsServing, ServesOn}
use Rattle.beep_steps.specs.beep_talk.specs.Plan.{PlainPlan}
use Rattle.beep_listener.specs.Listening.{ListensTaking}
use Rattle.beep_steps.specs.Speaking.{Notes}
use Rattle.beep_listener.specs.Speaking.{notes_of, TakesOn}
use Rattle.beep_listener.proofs.listener.Listener.take_all.Given as goal

abbrev pub invariant-loop : goal.invariant-loop
invariant-loop g l = record {
  stays : StaysOn l.fn.self.session l.self.session;
  serving : (plan : PlainPlan) → KeepsServing plan l.fn.self.session l.self.session;
  speaking : (plan : PlainPlan) (notes : Notes) (log : List Moment) → ServesOn plan l.fn.self.session log → TakesOn plan notes l.fn.self.session log → TakesOn plan notes l.self.session log;
  noted : notes_of l.self ≡ notes_of l.fn.self;
  taking : (log : List Moment) (text : List ℕ) → ListensTaking l.number 0 l.fn.self.session l.fn.self.bodies l.fn.self.lines.octets.octets log text
      → WithText (g.O.Sink.state l.fn.output).written (g.O.Sink.state l.output).written
      (λ more. ListensTaking l.number l.counter l.self.session l.self.bodies l.self.lines.octets.octets log (text ++ more));
  grew : Grows (g.O.Sink.state l.fn.output).written (g.O.Sink.state l.output).written;
  kept : (g.O.Sink.state l.fn.output).faults ≤ (g.O.Sink.state l.output).faults;
}
