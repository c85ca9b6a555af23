-- A listener on the log of its link: it asks nothing on channel zero and chooses the one profile
-- that it offers, so that each life began with that profile (RFC 3080, section 2.3.1.2; RFC 3195,
-- section 3).
-- The code decides by what it offers, and keeps nothing of what it said.
use Rattle.std.specs.Prelude.{◌≡◌, ℕ, false, List, [], ◌∷◌}
use Rattle.std.specs.List.{list_any}
use Rattle.beep_session.specs.beep_history.specs.Marks.{Mark}
use Rattle.beep_session.specs.beep_journal.specs.Broken.{none_tunes}
use Rattle.beep_session.specs.beep_journal.specs.Journal.{Past, Shows}
use Rattle.beep_session.specs.beep_journal.specs.Laws.{pieces_from}
use Rattle.beep_session.specs.beep_journal.specs.Log.{Moment}
use Rattle.beep_session.specs.beep_decide.specs.Decide.{PlainOffer}
use Rattle.beep_session.specs.beep_management.specs.Managed.{Prepared}
use Rattle.beep_session.specs.Session.{Held}
use Rattle.beep_desk.specs.beep_talk.specs.Plan.{PlainPlan}
use Rattle.beep_desk.specs.beep_script.specs.Requested.{requests_from}
use Rattle.beep_served.specs.Served.{chooses_other, IsServing}
use Rattle.beep_steps.specs.Logs.{StandsOn, WaitsOn}
use Rattle.beep_steps.specs.declared.hearing.Came.{Came}

-- the session offers one profile, which is the plan's
pub record IsListener (plan : PlainPlan) (session : Held) : Type 0 where
  pub offer : PlainOffer
  pub one : session.offers ≡ offer ∷ []
  pub uri : offer.uri ≡ plan.raw_uri

-- what was given to channel zero asks nothing, and no message of it says that another profile is
-- chosen; neither does an answer that isn't given yet
pub record Serves (uri : List ℕ) (given : List Mark) (answers : List Prepared) : Type 0 where
  pub no_request : requests_from [] given ≡ []
  pub no_other : list_any (chooses_other uri) (pieces_from [] given) ≡ false
  pub none_later : list_any (λ answer. chooses_other uri answer.octets) answers ≡ false

-- the session of a listener stands for what a log shows, and served the plan's profile alone
pub record ServesOn (plan : PlainPlan) (session : Held) (log : List Moment) : Type 0 where
  pub listener : IsListener plan session
  pub on : StandsOn session log
  pub serves : Serves plan.raw_uri (on.given 0) session.peer.management.answers

-- the same while a message of channel zero waits
pub record ServesWaiting (plan : PlainPlan) (session : Held) (log : List Moment) : Type 0 where
  pub listener : IsListener plan session
  pub on : WaitsOn session log
  pub serves : Serves plan.raw_uri (on.given 0) session.peer.management.answers

-- a call leaves a listener one that served its profile alone, whatever the log shows
abbrev pub KeepsServing : PlainPlan → Held → Held → Type 0
KeepsServing plan old new =
    (log : List Moment) → ServesOn plan old log → ServesOn plan new log

-- what came of some octets that a listener uses
abbrev pub ComesServing : PlainPlan → Came → Held → List Moment → Type 0
ComesServing plan Came.More session log = ServesOn plan session log
ComesServing plan (Came.Arrived number) session log = ServesOn plan session log
ComesServing plan Came.Zero session log = ServesWaiting plan session log

-- a log shows an end that served the plan's profile alone
abbrev pub ShowsServing : PlainPlan → List Moment → Type 0
ShowsServing plan log =
    (past : Past) → Shows none_tunes log past → IsServing plan.raw_uri past.journal
