-- What was refused so far leaves what the session stands for; where nothing was, each channel so far owes nothing, or finds no room.
use Rattle.std.proofs.Common.{◌≡◌, ◌≤◌, ◌==◌, ℕ, List, take, length, true, false}
use Rattle.beep_steps.specs.beep_history.specs.declared.limits.TheConstants.{MAX_MESSAGE}
use Rattle.beep_steps.specs.beep_journal.specs.Log.{Moment}
use Rattle.beep_steps.specs.beep_mgmt.specs.Form.{fault}
use Rattle.beep_steps.specs.beep_mgmt.specs.Message.{message_text}
use Rattle.beep_steps.specs.beep_decide.specs.Decide.{is_among, note_of}
use Rattle.beep_steps.specs.beep_talk.specs.Plan.{PlainPlan}
use Rattle.beep_steps.specs.Desking.{DesksOn}
use Rattle.beep_steps.specs.Logs.{StaysOn}
use Rattle.beep_steps.specs.Resting.{HasRepliedAt, HoldsStill, IsAwake}
use Rattle.beep_steps.specs.Serving.{KeepsServing}
use Rattle.beep_steps.specs.Speaking.{KeepsSpeaking, Notes}
use Rattle.beep_listener.proofs.asking.refuse_each.Given as goal

abbrev pub invariant-loop-i : goal.invariant-loop-i
invariant-loop-i l = record {
  stays : StaysOn l.fn.session l.session;
  serving : (plan : PlainPlan) → KeepsServing plan l.fn.session l.session;
  speaking : (plan : PlainPlan) (notes : Notes) → notes.spoken ≡ l.numbers → l.refusal ≡ message_text (fault 550 (note_of 550)) → KeepsSpeaking plan notes notes l.fn.session l.session;
  desk : (plan : PlainPlan) (log : List Moment) → DesksOn plan l.fn.session log → DesksOn plan l.session log;
  still : length l.refusal ≤ MAX_MESSAGE → l.is_given ≡ false → HoldsStill l.fn.session l.session;
  replied : length l.refusal ≤ MAX_MESSAGE → l.is_given ≡ false → IsAwake l.session → (n : ℕ) → is_among n (take l.i l.numbers) ≡ true → (n == 0) ≡ false → HasRepliedAt n l.session;
}
