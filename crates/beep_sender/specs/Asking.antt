-- A sender that keeps its script on channel zero too: what it gave there is what its script lists,
-- and what is asked for an item is given before the next one happens (RFC 3080, section 2.3.1; RFC
-- 3195, section 3.1).
-- The code keeps how many requests it asked alone.
use Rattle.std.specs.Prelude.{◌≡◌, ℕ, ◌==◌, ◌≤◌, false, not, ◌&&◌, ◌+◌, List, [], length}
use Rattle.beep_steps.specs.beep_frame.specs.declared.head.Head.{Head}
use Rattle.beep_steps.specs.beep_frame.specs.declared.head.TheConstants.{MAX_NUMBER}
use Rattle.beep_steps.specs.beep_frame.specs.Frame.{is_nul}
use Rattle.beep_steps.specs.beep_history.specs.declared.journal.Side.{Side}
use Rattle.beep_steps.specs.beep_history.specs.Journal.{passed}
use Rattle.beep_steps.specs.beep_history.specs.Marks.{Mark}
use Rattle.beep_steps.specs.beep_journal.specs.Life.{is_released}
use Rattle.beep_steps.specs.beep_journal.specs.Log.{Moment}
use Rattle.beep_steps.specs.beep_mgmt.specs.Form.{close}
use Rattle.beep_steps.specs.beep_answering.specs.declared.settled.Settled.{Settled}
use Rattle.beep_steps.specs.beep_session.specs.Session.{Held}
use Rattle.beep_steps.specs.beep_speaking.specs.declared.emit.Emit.{Emit}
use Rattle.beep_steps.specs.beep_talk.specs.Plan.{PlainPlan}
use Rattle.beep_steps.specs.beep_script.specs.Desk.{asks, asks_where}
use Rattle.beep_steps.specs.Desking.{AsksClose, AsksSo, DesksOn, DesksWaiting, DesksWithin}
use Rattle.beep_steps.specs.Logs.{AreTaken, StandsOn}
use Rattle.beep_steps.specs.Sending.{Progress}
use Rattle.beep_steps.specs.Steps.{IsUntaken}

-- ---- between two steps

-- what a session gave and prepared on channel zero is what its script lists and owes, and all that
-- came above it is taken
abbrev pub AsksOn : PlainPlan → Held → List Moment → Type 0
AsksOn plan session log = DesksOn plan session log × AreTaken session

-- a call leaves it so, whatever the log shows
abbrev pub KeepsAsking : PlainPlan → Held → Held → Type 0
KeepsAsking plan old new = (log : List Moment) → AsksOn plan old log → AsksOn plan new log

-- the same while a message of channel zero waits
abbrev pub AsksWaiting : PlainPlan → Held → List Moment → Type 0
AsksWaiting plan session log = DesksWaiting plan session log × AreTaken session

-- ---- within a step

-- a message was settled so, and what a sender that asked so often is to ask for it isn't given yet
pub record AsksSettled (plan : PlainPlan) (asked : ℕ) (settled : Settled) (session : Held)
    (log : List Moment) : Type 0 where
  pub desk : DesksWithin plan session log
  pub taken : AreTaken session
  pub head : Head
  pub payload : List ℕ
  pub item_is : desk.item ≡ passed Side.Received head payload
  pub so : AsksSo asked settled desk.item desk.before

-- a frame went out, for which the close of channel 1 is asked where it ends the lines, and else
-- nothing
pub record AsksGone (plan : PlainPlan) (progress : Progress) (head : Head) (session : Held)
    (log : List Moment) : Type 0 where
  pub desk : DesksWithin plan session log
  pub taken : AreTaken session
  pub asked : asks plan.command plan desk.item desk.before
      ≡ asks_where (not progress.is_sent && (head.channel == 1 && is_nul head.kind)) 2
      (close 1 200 [])
  pub few : progress.is_sent ≡ false → progress.asked ≤ 1

-- the close of channel 1 is asked for an item, and isn't given yet
pub record AsksClosing (plan : PlainPlan) (asked : ℕ) (session : Held) (log : List Moment)
    : Type 0 where
  pub desk : DesksWithin plan session log
  pub taken : AreTaken session
  pub next : AsksClose plan desk.item desk.before
  pub few : asked ≤ 1

-- what went out, by how far the sender was
abbrev pub AsksSaid : PlainPlan → Progress → Emit → Held → List Moment → Type 0
AsksSaid plan progress (Emit.Seq seq) session log = AsksOn plan session log
AsksSaid plan progress (Emit.Data head) session log = AsksGone plan progress head session log
AsksSaid plan progress Emit.Nothing session log = AsksOn plan session log

-- ---- a frame that arrives

-- of the frame of this number that arrived last these marks are left at most, and so many parts
-- were taken
pub record TakesFrame (number count : ℕ) (session : Held) (log : List Moment) : Type 0 where
  pub on : StandsOn session log
  pub above : (number == 0) ≡ false
  pub going : is_released on.journal ≡ false
  pub left : List Mark
  pub few : count + length left ≤ MAX_NUMBER + 1
  pub untaken : IsUntaken number left session
