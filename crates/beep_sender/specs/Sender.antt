-- What a sender is to do, and that it stands for a log (RFC 3195, section 3.1).
use Rattle.std.specs.Prelude.{ℕ, List, []}
use Rattle.beep_steps.specs.beep_journal.specs.Log.{Moment}
use Rattle.beep_steps.specs.beep_session.specs.Lawfully.{terms_of}
use Rattle.beep_steps.specs.beep_session.specs.Session.{Held}
use Rattle.beep_steps.specs.beep_talk.specs.declared.plan.Command.{Command}
use Rattle.beep_steps.specs.beep_talk.specs.Plan.{PlainPlan}
use Rattle.beep_sender.specs.declared.sender.Sender.{Sender}
use Rattle.beep_steps.specs.Scripting.{ScriptedOn, ScriptedWaiting}
use Rattle.beep_steps.specs.Refusing.{IsUnrefused}
use Rattle.beep_steps.specs.Sending.{Progress, SendsOn, SendsWaiting}
use Rattle.beep_sender.specs.Asking.{AsksOn, AsksWaiting}

-- what a sender over this session is to do, that asks for this profile and has these lines
abbrev pub plan_by : Held → List ℕ → List (List ℕ) → PlainPlan
plan_by session uri lines = record {
  command = Command.Send;
  terms = terms_of session;
  offers = [];
  raw_uri = uri;
  lines = lines;
}

-- what this sender is to do, and how far it is
abbrev pub plan_of : Sender → PlainPlan
plan_of sender = plan_by sender.session sender.uri.now sender.lines.now

abbrev pub progress_of : Sender → Progress
progress_of sender = record {
  next = sender.next;
  asked = sender.asked;
  is_sent = sender.is_sent;
}

-- it stands for what a log shows, and has said so much of what it is to say
abbrev pub SendsBy : Sender → List Moment → Type 0
SendsBy sender log = SendsOn (plan_of sender) (progress_of sender) sender.session log

abbrev pub SendsWaitingBy : Sender → List Moment → Type 0
SendsWaitingBy sender log = SendsWaiting (plan_of sender) (progress_of sender) sender.session log

-- a call that takes a sender so far leaves it further, whatever the log shows
abbrev pub KeepsSendingBy : Sender → Sender → Type 0
KeepsSendingBy old new = (log : List Moment) → SendsBy old log → SendsBy new log

-- ---- its script

-- it stands for what a log shows, and kept its script above channel zero so far
abbrev pub ScriptsBy : Sender → List Moment → Type 0
ScriptsBy sender log = ScriptedOn (plan_of sender) (progress_of sender) sender.session log

abbrev pub ScriptsWaitingBy : Sender → List Moment → Type 0
ScriptsWaitingBy sender log =
    ScriptedWaiting (plan_of sender) (progress_of sender) sender.session log

-- a call leaves a sender that kept its script one that keeps it, whatever the log shows
abbrev pub KeepsScriptingBy : Sender → Sender → Type 0
KeepsScriptingBy old new = (log : List Moment) → ScriptsBy old log → ScriptsBy new log

-- and on channel zero too
abbrev pub AsksBy : Sender → List Moment → Type 0
AsksBy sender log = ScriptsBy sender log × AsksOn (plan_of sender) sender.session log

abbrev pub AsksWaitingBy : Sender → List Moment → Type 0
AsksWaitingBy sender log =
    ScriptsWaitingBy sender log × AsksWaiting (plan_of sender) sender.session log

-- and the peer refused it nothing
abbrev pub StandsBy : Sender → List Moment → Type 0
StandsBy sender log = AsksBy sender log × IsUnrefused Command.Send sender.is_closing log
