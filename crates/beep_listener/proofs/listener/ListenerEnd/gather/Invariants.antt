-- What goes out leaves what is kept.
use Rattle.std.proofs.Common.{◌≡◌, ℕ, List}
use Rattle.beep_steps.specs.beep_journal.specs.Log.{Moment, put_all}
use Rattle.beep_steps.specs.beep_talk.specs.Plan.{PlainPlan}
use Rattle.beep_steps.specs.Serving.{ServesOn}
use Rattle.beep_listener.specs.Listening.{Listens, UnrefusedOn, plan_of}
use Rattle.beep_listener.specs.Speaking.{SpeaksBy}
use Rattle.beep_listener.proofs.listener.ListenerEnd.gather.Given as goal

abbrev pub invariant-loop : goal.invariant-loop
invariant-loop l = record {
  plan : plan_of l.self.session ≡ plan_of l.fn.self.session;
  listens : (log : List Moment) (text : List ℕ) → Listens l.fn.self.session l.fn.self.bodies l.fn.self.lines.octets.octets (put_all l.fn.out.octets log) text
      → Listens l.self.session l.self.bodies l.self.lines.octets.octets (put_all l.out.octets log) text;
  serving : (plan : PlainPlan) (log : List Moment) → ServesOn plan l.fn.self.session (put_all l.fn.out.octets log) → ServesOn plan l.self.session (put_all l.out.octets log);
  unrefused : (log : List Moment) → UnrefusedOn l.fn.self.session (put_all l.fn.out.octets log) → UnrefusedOn l.self.session (put_all l.out.octets log);
  speaking : (plan : PlainPlan) (log : List Moment) (text : List ℕ) → Listens l.fn.self.session l.fn.self.bodies l.fn.self.lines.octets.octets (put_all l.fn.out.octets log) text
      → ServesOn plan l.fn.self.session (put_all l.fn.out.octets log) → SpeaksBy plan l.fn.self (put_all l.fn.out.octets log) → SpeaksBy plan l.self (put_all l.out.octets log);
  lines : l.self.lines ≡ l.fn.self.lines;
}
