-- A listener that keeps its script, by what it notes (RFC 3080, section 2.3.1; RFC 3195, section
-- 3).
use Rattle.std.specs.Prelude.{◌≡◌, ℕ, ◌==◌, true, false, List}
use Rattle.beep_steps.specs.beep_journal.specs.Log.{Moment}
use Rattle.beep_steps.specs.beep_decide.specs.Decide.{is_among}
use Rattle.beep_steps.specs.beep_session.specs.Session.{Held}
use Rattle.beep_steps.specs.beep_talk.specs.Plan.{PlainPlan}
use Rattle.beep_listener.specs.declared.listener.Listener.{Listener}
use Rattle.beep_steps.specs.Desking.{DesksOn, DesksWaiting, DesksWithin}
use Rattle.beep_steps.specs.Resting.{HasRepliedAt, HasSaidAll, IsAwake}
use Rattle.beep_steps.specs.Speaking.{Notes, SpeaksGone, SpeaksNew, SpeaksOn, SpeaksWaiting}

-- what a listener notes beside its session
abbrev pub notes_of : Listener → Notes
notes_of listener = record {
  spoken = listener.spoken.items;
  leaving = listener.leaving;
}

-- a session with these notes stands for what a log shows, and keeps its script
abbrev pub SpeaksAll : PlainPlan → Notes → Held → List Moment → Type 0
SpeaksAll plan notes session log = SpeaksOn plan notes session log × DesksOn plan session log

-- so does a listener
abbrev pub SpeaksBy : PlainPlan → Listener → List Moment → Type 0
SpeaksBy plan listener log = SpeaksAll plan (notes_of listener) listener.session log

-- the same while a message of channel zero waits
abbrev pub SpeaksWaitingBy : PlainPlan → Listener → List Moment → Type 0
SpeaksWaitingBy plan listener log =
    SpeaksWaiting plan (notes_of listener) listener.session log
    × DesksWaiting plan listener.session log

-- the same while a frame is taken that arrived above channel zero
abbrev pub TakesOn : PlainPlan → Notes → Held → List Moment → Type 0
TakesOn plan notes session log = SpeaksOn plan notes session log × DesksWithin plan session log

-- so a listener
abbrev pub TakesBy : PlainPlan → Listener → List Moment → Type 0
TakesBy plan listener log = TakesOn plan (notes_of listener) listener.session log

-- the same after a frame of channel zero went out
abbrev pub SpeaksGoneBy : PlainPlan → Listener → List Moment → Type 0
SpeaksGoneBy plan listener log = SpeaksGone plan (notes_of listener) listener.session log
    × DesksWithin plan listener.session log

-- the same once the numbers of lives that have ended are gone, where the life of this one begins
abbrev pub SpeaksNewBy : PlainPlan → ℕ → Listener → List Moment → Type 0
SpeaksNewBy plan number listener log =
    SpeaksNew plan (notes_of listener) number listener.session log
    × DesksWithin plan listener.session log

-- a call leaves a listener one that keeps its script, whatever the log shows
abbrev pub KeepsSpeakingBy : PlainPlan → Listener → Listener → Type 0
KeepsSpeakingBy plan old new = (log : List Moment) → SpeaksBy plan old log → SpeaksBy plan new log

-- ---- a listener that rests

-- while its session goes on nothing may go out
abbrev pub SaysOn : Held → Type 0
SaysOn session = IsAwake session → HasSaidAll session

-- while it goes on nothing is owed that isn't refused or finds no room
abbrev pub RepliesOn : Notes → Held → Type 0
RepliesOn notes session = IsAwake session → (n : ℕ) → (n == 0) ≡ false
    → is_among n notes.spoken ≡ true → HasRepliedAt n session

-- it has nothing more to say by itself
abbrev pub RestsOn : Notes → Held → Type 0
RestsOn notes session = SaysOn session × RepliesOn notes session
