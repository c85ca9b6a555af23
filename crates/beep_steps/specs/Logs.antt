-- An end on the log of its link: what its session stands for is what the log shows, and what ended
-- it shows in the log (RFC 3080, section 2.2.1; RFC 3081, section 3.1).
-- The code keeps neither a log nor a journal.
use Rattle.std.specs.Prelude.{◌≡◌, ◌⊎◌, ℕ, true, false, List, [], ◌∷◌, length, Some}
use Rattle.beep_session.specs.beep_frame.specs.declared.head.Head.{Head}
use Rattle.beep_session.specs.beep_frame.specs.declared.rule.Rule.{Rule}
use Rattle.beep_session.specs.beep_frame.specs.Modulo.{modulo_2_64}
use Rattle.beep_session.specs.beep_history.specs.declared.journal.Side.{Side}
use Rattle.beep_session.specs.beep_history.specs.Journal.{Item}
use Rattle.beep_session.specs.beep_journal.specs.declared.role.Role.{Role}
use Rattle.beep_session.specs.beep_journal.specs.Broken.{none_tunes}
use Rattle.beep_session.specs.beep_journal.specs.Journal.{Past, Shows as ShowsPast}
use Rattle.beep_session.specs.beep_journal.specs.Life.{is_released}
use Rattle.beep_session.specs.beep_journal.specs.Log.{Moment, got_all, put_all, none, over}
use Rattle.beep_session.specs.beep_lawful.specs.declared.terms.Terms.{Terms}
use Rattle.beep_session.specs.beep_lawful.specs.Lawful.{IsLawful, IsLawfulLog}
use Rattle.beep_session.specs.beep_standing.specs.Standing.{Marks}
use Rattle.beep_session.specs.beep_upright.specs.Frames.{AreFrames}
use Rattle.beep_session.specs.beep_upright.specs.Upright.{IsUpright}
use Rattle.beep_session.specs.beep_peer.specs.Peering.{WaitsIn, is_over}
use Rattle.beep_session.specs.Looks.{IsTakenAt}
use Rattle.beep_session.specs.Session.{Held}
use Rattle.beep_session.specs.Lawfully.{terms_of, IsLawfulSession}
use Rattle.beep_logged.specs.Logged.{IsLogged, IsLoggedWaiting, IsLoggedBroken, IsSound}
use Rattle.beep_desk.specs.beep_talk.specs.declared.plan.Command.{Command}
use Rattle.beep_desk.specs.beep_script.specs.Refused.{refusal}
use Rattle.beep_session.specs.beep_settings.specs.declared.settings.Settings.{Settings}
use Rattle.beep_link.specs.beep_wires.specs.Log.{Entry, read, wrote, quiet, ended}
use Rattle.beep_link.specs.declared.ended.Ended.{Ended}
use Rattle.beep_link.specs.declared.ended.Stop.{Stop}
use Rattle.beep_steps.specs.declared.hearing.Came.{Came}

-- the flat log of a link, the latest moment first: how reads and writes were cut isn't in it
abbrev pub moments : List Entry → List Moment
moments [] = []
moments (read octets ∷ log) = got_all octets (moments log)
moments (wrote octets ∷ log) = put_all octets (moments log)
moments (quiet ∷ log) = none ∷ moments log
moments (ended ∷ log) = over ∷ moments log

-- what an end of this role holds itself to by its settings
abbrev pub terms_by : Role → Settings → Terms
terms_by role settings =
    record { role = role; window = settings.window; piece = settings.piece }

-- each moment of the log of a link was lawful: what was written on it is lawful over all that came
-- before
abbrev pub IsLawfulOn : Terms → List Entry → Type 0
IsLawfulOn terms log = IsLawfulLog terms none_tunes (moments log)

-- ---- what ended a session

-- a log shows a released session, in which no rule was broken and each written frame is whole
pub record ShowsRelease (terms : Terms) (log : List Moment) : Type 0 where
  pub sound : IsSound terms log
  pub whole : sound.past.rest Side.Sent ≡ []
  pub released : is_released sound.past.journal ≡ true

-- a log shows that the peer broke this rule first, at the octet of this place modulo 2^64
pub record ShowsFault (terms : Terms) (rule : Rule) (place : ℕ) (log : List Moment)
    : Type 0 where
  pub octet : ℕ
  pub place_is : place ≡ modulo_2_64 octet
  pub broken : IsLoggedBroken terms rule octet log

-- what an end of this role is to do: an initiator sends, and a listener listens
abbrev pub command_of : Role → Command
command_of Role.Initiator = Command.Send
command_of Role.Listener = Command.Listen

-- a log shows that the peer refused, first with this code
abbrev pub ShowsRefused : Terms → ℕ → List Moment → Type 0
ShowsRefused terms code log = (past : Past) → ShowsPast none_tunes log past
    → refusal (command_of terms.role) past.journal ≡ Some code

-- a log shows a session that isn't released, in which no rule was broken and each written frame is
-- whole
pub record ShowsGoing (terms : Terms) (log : List Moment) : Type 0 where
  pub sound : IsSound terms log
  pub whole : sound.past.rest Side.Sent ≡ []
  pub unreleased : is_released sound.past.journal ≡ false

-- the same, and so many octets modulo 2^64 of a frame that isn't whole
pub record ShowsCut (terms : Terms) (left : ℕ) (log : List Moment) : Type 0 where
  pub sound : IsSound terms log
  pub whole : sound.past.rest Side.Sent ≡ []
  pub unreleased : is_released sound.past.journal ≡ false
  pub left_is : left ≡ modulo_2_64 (length (sound.past.rest Side.Received))

-- the latest entry of the log is a read, before which no rule was broken: nothing came after it
abbrev pub StopsInRead : Terms → List Entry → Type 0
StopsInRead terms [] = ⊥
StopsInRead terms (read octets ∷ log) =
    IsSound terms (moments log) × IsLawfulOn terms (read octets ∷ log)
StopsInRead terms (wrote octets ∷ log) = ⊥
StopsInRead terms (quiet ∷ log) = ⊥
StopsInRead terms (ended ∷ log) = ⊥

-- what the log of a link shows of a session that ended so
abbrev pub Shows : Terms → Ended → List Entry → Type 0
Shows terms Ended.Released log = ShowsRelease terms (moments log)
Shows terms (Ended.Broken rule place) log =
    ShowsFault terms rule place (moments log) × StopsInRead terms log
Shows terms Ended.WriteFault log = StopsInRead terms log
Shows terms Ended.WireFault log = IsSound terms (moments log)
Shows terms Ended.NoMemory log = IsSound terms (moments log) ⊎ StopsInRead terms log
Shows terms (Ended.Refused code) log =
    StopsInRead terms log × ShowsRefused terms code (moments log)
Shows terms (Ended.Cut left) log = ShowsCut terms left (moments log)
Shows terms (Ended.Idle count) log = ShowsGoing terms (moments log)
Shows terms (Ended.Spent count) log = ShowsGoing terms (moments log)

-- ---- while it goes on

-- a session stands for what a log shows: its journal is that of the log, and what it has to say may
-- lawfully go out
pub record StandsOn (session : Held) (log : List Moment) : Type 0 where
  pub fed : List ℕ
  pub rest : List ℕ
  pub journal : List Item
  pub given : Marks
  pub taken : Marks
  pub stands : IsLawfulSession session fed rest journal given taken
  pub framed : AreFrames journal
  pub logged : IsLogged (terms_of session) rest journal log

-- the same, where the last octet that was read ended a message of channel zero, which waits
pub record WaitsOn (session : Held) (log : List Moment) : Type 0 where
  pub fed : List ℕ
  pub journal : List Item
  pub given : Marks
  pub taken : Marks
  pub head : Head
  pub payload : List ℕ
  pub waits : WaitsIn session.limits.window fed journal given taken head payload session.peer
  pub upright : IsUpright (terms_of session) journal session.peer.lives session.peer.management
  pub lawful : IsLawful (terms_of session) none_tunes journal
  pub framed : AreFrames journal
  pub going : is_over session.peer ≡ false
  pub logged : IsLoggedWaiting (terms_of session) head payload journal log

-- nothing above channel zero is untaken
abbrev pub AreTaken : Held → Type 0
AreTaken session = (number : ℕ) → IsTakenAt number session.peer.lives

-- what a session stood for it stands for still, its terms and its offers stay, and what was taken
-- stays so
pub record StaysOn (old new : Held) : Type 0 where
  pub terms : terms_of new ≡ terms_of old
  pub offers : new.offers ≡ old.offers
  pub taken : (log : List Moment) → StandsOn old log → AreTaken old → AreTaken new
  pub stands : (log : List Moment) → StandsOn old log → StandsOn new log

-- what a log shows of a session that is stopped so as it uses octets
abbrev pub StopsOn : Terms → Stop → List Moment → Type 0
StopsOn terms Stop.Released log = ShowsRelease terms log
StopsOn terms (Stop.Broken rule place) log = ShowsFault terms rule place log
StopsOn terms Stop.WriteFault log = Unit {0}
StopsOn terms Stop.NoMemory log = Unit {0}
StopsOn terms (Stop.Refused code) log = Unit {0}

-- a stop of which a log shows nothing: the session neither is released nor breaks a rule
abbrev pub SaysNothing : Stop → Type 0
SaysNothing Stop.Released = ⊥
SaysNothing (Stop.Broken rule place) = ⊥
SaysNothing Stop.WriteFault = Unit {0}
SaysNothing Stop.NoMemory = Unit {0}
SaysNothing (Stop.Refused code) = Unit {0}

-- what came of some octets that a session uses
abbrev pub ComesOn : Came → Held → List Moment → Type 0
ComesOn Came.More session log = StandsOn session log
ComesOn (Came.Arrived number) session log = StandsOn session log
ComesOn Came.Zero session log = WaitsOn session log
