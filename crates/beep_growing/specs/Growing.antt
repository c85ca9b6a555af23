-- A sender whose input goes on: its plan with more lines, and what it is while the end of its lines
-- isn't given (RFC 3080, section 2.1.1; RFC 3195, section 3.1).
-- The code keeps the place of the next line alone, and all lines from the start.
use Rattle.std.specs.Prelude.{◌≡◌, ◌≤◌, ℕ, ◌==◌, true, false, List, ◌++◌, length, take}
use Rattle.std.specs.List.{list_any}
use Rattle.beep_steps.specs.beep_history.specs.declared.journal.Side.{Side}
use Rattle.beep_steps.specs.beep_history.specs.Journal.{Item}
use Rattle.beep_steps.specs.beep_history.specs.Marks.{marks}
use Rattle.beep_steps.specs.beep_journal.specs.Life.{is_there, life}
use Rattle.beep_steps.specs.beep_journal.specs.Log.{Moment}
use Rattle.beep_steps.specs.beep_standing.specs.Standing.{Marks}
use Rattle.beep_steps.specs.beep_session.specs.Session.{Held}
use Rattle.beep_steps.specs.beep_talk.specs.Plan.{PlainPlan}
use Rattle.beep_steps.specs.beep_script.specs.Sending.{answers_of, ends_whole}
use Rattle.beep_steps.specs.Desking.{DesksOn, DesksWaiting, DesksWithin}
use Rattle.beep_steps.specs.Scripting.{ScriptedOn, ScriptedWaiting}
use Rattle.beep_steps.specs.Sending.{Progress}

-- the same plan with more lines, after those that it has
abbrev pub with_more : List (List ℕ) → PlainPlan → PlainPlan
with_more more plan = record plan { lines = plan.lines ++ more }

-- the end of the lines isn't given: the NUL hasn't gone, and of the lines as many were answered as
-- the place of the next says, and no more
pub record AnswersPart (plan : PlainPlan) (progress : Progress) (journal : List Item)
    (given : Marks) : Type 0 where
  pub few : progress.next ≤ length plan.lines
  pub unsent : progress.is_sent ≡ false
  pub part : is_there 1 journal ≡ true → given 1 ≡ answers_of (take progress.next plan.lines)

-- no reply has ended in a life above channel zero: no NUL was sent there, no RPY and no ERR
abbrev pub EndsNoReply : List Item → Type 0
EndsNoReply journal = (number count : ℕ) → (number == 0) ≡ false
    → list_any ends_whole (marks Side.Sent (life number count journal)) ≡ false

-- both
pub record IsUnended (plan : PlainPlan) (progress : Progress) (journal : List Item)
    (given : Marks) : Type 0 where
  pub answers : AnswersPart plan progress journal given
  pub going : EndsNoReply journal

-- ---- a sender on the log of its link

-- it keeps its script so far, on channel zero and above, and the end of its lines isn't given
pub record FollowsOn (plan : PlainPlan) (progress : Progress) (session : Held)
    (log : List Moment) : Type 0 where
  pub scripted : ScriptedOn plan progress session log
  pub desks : DesksOn plan session log
  pub unended : IsUnended plan progress scripted.sends.on.journal scripted.sends.on.given

-- the same within a step
pub record FollowsWithin (plan : PlainPlan) (progress : Progress) (session : Held)
    (log : List Moment) : Type 0 where
  pub scripted : ScriptedOn plan progress session log
  pub desks : DesksWithin plan session log
  pub unended : IsUnended plan progress scripted.sends.on.journal scripted.sends.on.given

-- the same while a message of channel zero waits
pub record FollowsWaiting (plan : PlainPlan) (progress : Progress) (session : Held)
    (log : List Moment) : Type 0 where
  pub scripted : ScriptedWaiting plan progress session log
  pub desks : DesksWaiting plan session log
  pub unended : IsUnended plan progress scripted.sends.on.journal scripted.sends.on.given
