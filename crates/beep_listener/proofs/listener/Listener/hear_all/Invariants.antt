-- The octets so far are used, and each event uses one at least.
use Rattle.std.proofs.Common.{◌≡◌, ◌≤◌, ◌++◌, ℕ, List, length, take}
use Rattle.beep_steps.specs.beep_journal.specs.Log.{Moment, got_all}
use Rattle.beep_steps.specs.beep_link.specs.Causes.{Grows, WithText}
use Rattle.beep_steps.specs.beep_talk.specs.Plan.{PlainPlan}
use Rattle.beep_steps.specs.Serving.{ServesOn}
use Rattle.beep_listener.specs.Listening.{Listens, UnrefusedOn, plan_of}
use Rattle.beep_listener.specs.Speaking.{SpeaksBy}
use Rattle.beep_listener.proofs.listener.Listener.hear_all.Given as goal

abbrev pub invariant-loop : goal.invariant-loop
invariant-loop g l = record {
  within : l.at ≤ length l.bytes;
  plan : plan_of l.self.session ≡ plan_of l.fn.self.session;
  listens : (log : List Moment) (text : List ℕ) → Listens l.fn.self.session l.fn.self.bodies l.fn.self.lines.octets.octets log text
      → WithText (g.O.Sink.state l.fn.output).written (g.O.Sink.state l.output).written
      (λ more. Listens l.self.session l.self.bodies l.self.lines.octets.octets (got_all (take l.at l.bytes) log) (text ++ more));
  serving : (plan : PlainPlan) (log : List Moment) → ServesOn plan l.fn.self.session log → ServesOn plan l.self.session (got_all (take l.at l.bytes) log);
  speaking : (plan : PlainPlan) (log : List Moment) (text : List ℕ) → Listens l.fn.self.session l.fn.self.bodies l.fn.self.lines.octets.octets log text → ServesOn plan l.fn.self.session log
      → SpeaksBy plan l.fn.self log → SpeaksBy plan l.self (got_all (take l.at l.bytes) log);
  unrefused : (log : List Moment) → UnrefusedOn l.fn.self.session log → UnrefusedOn l.self.session (got_all (take l.at l.bytes) log);
  goes : (log : List Moment) → UnrefusedOn l.fn.self.session log → l.counter ≤ l.at;
  used : (plan : PlainPlan) (log : List Moment) → ServesOn plan l.fn.self.session log → l.counter ≤ l.at;
  more : (log : List Moment) (text : List ℕ) → Listens l.fn.self.session l.fn.self.bodies l.fn.self.lines.octets.octets log text → l.counter ≤ l.at;
  grew : Grows (g.O.Sink.state l.fn.output).written (g.O.Sink.state l.output).written;
  kept : (g.O.Sink.state l.fn.output).faults ≤ (g.O.Sink.state l.output).faults;
}
