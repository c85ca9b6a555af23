-- What a listener keeps between two messages: nothing that came above channel zero is untaken, the
-- octets so far of each answer that has come in part, and the lines of those that are whole (RFC
-- 3195, section 3).
-- The code keeps no journal, no marks, and no list of the answers that are whole.
use Rattle.std.specs.Prelude.{◌≡◌, ◌⊎◌, ℕ, ◌+◌, ◌≤◌, ◌==◌, Bool, true, false, ◌&&◌, List, [], ◌∷◌, ◌++◌, flat_map, length, map}
use Rattle.beep_steps.specs.beep_frame.specs.declared.head.Head.{Head}
use Rattle.beep_steps.specs.beep_frame.specs.declared.head.TheConstants.{MAX_NUMBER}
use Rattle.beep_steps.specs.beep_frame.specs.declared.kind.Kind.{Kind}
use Rattle.beep_steps.specs.beep_frame.specs.declared.tag.Tag.{Tag}
use Rattle.beep_steps.specs.beep_frame.specs.Frame.{same_kind}
use Rattle.beep_steps.specs.beep_history.specs.declared.journal.Side.{Side}
use Rattle.beep_steps.specs.beep_history.specs.Journal.{Item, passed}
use Rattle.beep_steps.specs.beep_history.specs.Marks.{Mark, marks, mark_modulo_2_64}
use Rattle.beep_steps.specs.beep_history.specs.Messages.{cut_from, left_from}
use Rattle.beep_steps.specs.beep_journal.specs.Broken.{none_tunes}
use Rattle.beep_steps.specs.beep_journal.specs.Journal.{Past, Shows}
use Rattle.beep_steps.specs.beep_journal.specs.declared.role.Role.{Role}
use Rattle.beep_steps.specs.beep_journal.specs.Life.{history, is_released, is_there}
use Rattle.beep_steps.specs.beep_journal.specs.Log.{Moment}
use Rattle.beep_steps.specs.beep_inbox.specs.declared.part.Part.{Part}
use Rattle.beep_steps.specs.beep_inbox.specs.Laws.{part_marks}
use Rattle.beep_steps.specs.beep_decide.specs.Decide.{PlainOffer}
use Rattle.beep_steps.specs.beep_session.specs.Session.{Held}
use Rattle.beep_steps.specs.beep_session.specs.Lawfully.{terms_of}
use Rattle.beep_steps.specs.beep_talk.specs.declared.plan.Command.{Command}
use Rattle.beep_steps.specs.beep_talk.specs.Plan.{PlainPlan}
pub use Rattle.beep_steps.specs.beep_served.specs.Served.{ServedAt, IsServed}
use Rattle.beep_steps.specs.beep_script.specs.EachEnd.{AreWritten}
use Rattle.beep_steps.specs.beep_script.specs.Lines.{lines}
use Rattle.beep_steps.specs.beep_script.specs.Script.{BeginsWith}
use Rattle.beep_steps.specs.beep_lawful.specs.Lawful.{IsLawfulLog}
use Rattle.beep_lines.specs.declared.bodies.Body.{Body}
use Rattle.beep_lines.specs.Bodies.{body_of}
use Rattle.beep_lines.specs.Lines.{lines_of}
use Rattle.beep_steps.specs.beep_link.specs.declared.ended.Ended.{Ended}
use Rattle.beep_steps.specs.beep_link.specs.declared.ended.Stop.{Stop}
use Rattle.beep_steps.specs.beep_settings.specs.declared.settings.Settings.{Settings}
use Rattle.beep_steps.specs.beep_wires.specs.Log.{Entry, read, wrote, quiet, ended}
use Rattle.beep_steps.specs.Logs.{moments, terms_by, AreTaken, Shows as ShowsEnd, StandsOn, WaitsOn}
use Rattle.beep_steps.specs.Refusing.{GoesUnrefused, IsUnrefused, Unrefused}
use Rattle.beep_steps.specs.Serving.{ServesOn, ShowsServing}
use Rattle.beep_steps.specs.Steps.{arrived_marks, IsUntaken}

-- ---- what is written

-- the URI of the first offer
abbrev pub first_uri : List PlainOffer → List ℕ
first_uri [] = []
first_uri (offer ∷ offers) = offer.uri

-- what a listener is to do, by what its session keeps to and offers
abbrev pub plan_of : Held → PlainPlan
plan_of session = record {
  command = Command.Listen;
  terms = terms_of session;
  offers = session.offers;
  raw_uri = first_uri session.offers;
  lines = [];
}

-- what a listener is to do by these settings
abbrev pub listener_plan : Settings → PlainPlan
listener_plan settings = record {
  command = Command.Listen;
  terms = terms_by Role.Listener settings;
  offers = record { uri = settings.raw_uri; tuning = false } ∷ [];
  raw_uri = settings.raw_uri;
  lines = [];
}

-- all lines were written where the session ended so, or else a beginning of them
abbrev pub is_whole : Ended → Bool
is_whole Ended.Released = true
is_whole (Ended.Broken rule place) = true
is_whole Ended.WriteFault = false
is_whole Ended.WireFault = true
is_whole Ended.NoMemory = false
is_whole (Ended.Refused code) = true
is_whole (Ended.Cut left) = true
is_whole (Ended.Idle count) = true
is_whole (Ended.Spent count) = true

-- all lines were gathered where a read was stopped so, or else a beginning of them, which is all of
-- them at a refusal: before the peer's greeting no line comes
abbrev pub is_gathered : Stop → Bool
is_gathered Stop.Released = true
is_gathered (Stop.Broken rule place) = true
is_gathered Stop.WriteFault = false
is_gathered Stop.NoMemory = false
is_gathered (Stop.Refused code) = false

-- what was written is the lines of the session that a log shows, or a beginning of them
abbrev pub WritesLines : PlainPlan → Bool → List Moment → List ℕ → Type 0
WritesLines plan whole log text = (past : Past) → Shows none_tunes log past
    → IsServed plan past.journal → AreWritten whole (lines plan past.journal) text

-- what the log of a link shows of a listener that ended so, and what it wrote
pub record TellsLines (plan : PlainPlan) (cause : Ended) (log : List Entry) (text : List ℕ)
    : Type 0 where
  pub shows : ShowsEnd plan.terms cause log
  pub lines : WritesLines plan (is_whole cause) (moments log) text

-- the same, of an end that served its profile alone
abbrev pub TellsServed : PlainPlan → Ended → List Entry → List ℕ → Type 0
TellsServed plan cause log text = TellsLines plan cause log text
    × ShowsServing plan (moments log) × GoesUnrefused plan.terms cause log

-- what was written is the lines of the session that a log shows, or a beginning of them, whatever
-- came
abbrev pub AreLinesOf : PlainPlan → Bool → List Moment → List ℕ → Type 0
AreLinesOf plan whole log text = (past : Past) → Shows none_tunes log past
    → AreWritten whole (lines plan past.journal) text

-- what was written begins with the lines of the session that a log shows
abbrev pub HasLinesOf : PlainPlan → List ℕ → List Moment → Type 0
HasLinesOf plan text log = (past : Past) → Shows none_tunes log past
    → BeginsWith text (lines plan past.journal)

-- the same of a lawful log, of an end that served its profile alone
pub record WritesAtLeast (plan : PlainPlan) (text : List ℕ) (log : List Moment) : Type 0 where
  pub lawful : IsLawfulLog plan.terms none_tunes log
  pub serving : ShowsServing plan log
  pub begins : (past : Past) → Shows none_tunes log past → IsServed plan past.journal
      → BeginsWith text (lines plan past.journal)

-- the latest entry of the log of a link is a read, and of the log before it this holds
abbrev pub HoldsBefore : (List Moment → Type 0) → List Entry → Type 0
HoldsBefore P [] = ⊥
HoldsBefore P (read octets ∷ log) = P (moments log)
HoldsBefore P (wrote octets ∷ log) = ⊥
HoldsBefore P (quiet ∷ log) = ⊥
HoldsBefore P (ended ∷ log) = ⊥

-- where a session ended so that not all lines need be written, this holds of the log before its
-- latest read, or, where memory ran out, of the whole log
abbrev pub KeepsWhere : (List Moment → Type 0) → Ended → List Entry → Type 0
KeepsWhere P Ended.Released log = Unit {0}
KeepsWhere P (Ended.Broken rule place) log = Unit {0}
KeepsWhere P Ended.WriteFault log = HoldsBefore P log
KeepsWhere P Ended.WireFault log = Unit {0}
KeepsWhere P Ended.NoMemory log = P (moments log) ⊎ HoldsBefore P log
KeepsWhere P (Ended.Refused code) log = Unit {0}
KeepsWhere P (Ended.Cut left) log = Unit {0}
KeepsWhere P (Ended.Idle count) log = Unit {0}
KeepsWhere P (Ended.Spent count) log = Unit {0}

-- ---- what is kept

-- what an answer of this number to the first request is marked with
abbrev pub first_answer : ℕ → Tag
first_answer ansno = record { kind = Kind.Ans; request = 0; ansno = ansno }

-- it is that of an answer to the first request
abbrev pub is_first : Tag → Bool
is_first tag = same_kind tag.kind Kind.Ans && tag.request == 0

-- the octets so far of an answer to the first request of the live life of a number
abbrev pub so_far : ℕ → ℕ → List Item → List ℕ
so_far number ansno journal =
    left_from [] (first_answer ansno) (marks Side.Received (history number journal))

-- the bodies are these octets, in each live life
abbrev pub AreGathered : List Item → List Body → Type 0
AreGathered journal bodies = (number ansno : ℕ) → (number == 0) ≡ false
    → is_there number journal ≡ true → body_of number ansno bodies ≡ so_far number ansno journal

-- there are none of a number that has no live life
abbrev pub ArePruned : List Item → List Body → Type 0
ArePruned journal bodies = (number ansno : ℕ) → (number == 0) ≡ false
    → is_there number journal ≡ false → body_of number ansno bodies ≡ []

-- the bodies, and the lines that are gathered, are those of a journal, of whose lines this text was
-- written
pub record Gathers (plan : PlainPlan) (bodies : List Body) (buffer text : List ℕ)
    (journal : List Item) : Type 0 where
  pub gathered : IsServed plan journal → AreGathered journal bodies
  pub lines : IsServed plan journal → lines plan journal ≡ text ++ buffer

-- a listener stands for what a log shows, and for the text that it wrote
pub record Listens (session : Held) (bodies : List Body) (buffer : List ℕ) (log : List Moment)
    (text : List ℕ) : Type 0 where
  pub on : StandsOn session log
  pub taken : AreTaken session
  pub gathers : Gathers (plan_of session) bodies buffer text on.journal
  pub pruned : ArePruned on.journal bodies

-- the same between two reads: no line is gathered that isn't written
pub record ListensDry (session : Held) (bodies : List Body) (buffer : List ℕ) (log : List Moment)
    (text : List ℕ) : Type 0 where
  pub listens : Listens session bodies buffer log text
  pub dry : buffer ≡ []

-- a listener stands for what a log shows, in which the peer refused nothing
pub record UnrefusedOn (session : Held) (log : List Moment) : Type 0 where
  pub on : StandsOn session log
  pub role : session.role ≡ Role.Listener
  pub unrefused : IsUnrefused Command.Listen false log

-- the same while a message of channel zero waits
pub record UnrefusedWaiting (session : Held) (log : List Moment) : Type 0 where
  pub on : WaitsOn session log
  pub role : session.role ≡ Role.Listener
  pub unrefused : Unrefused Command.Listen false on.journal

-- it stands for it between two reads, served its profile alone, and was refused nothing
abbrev pub ListensServed : Held → List Body → List ℕ → List Moment → List ℕ → Type 0
ListensServed session bodies buffer log text = ListensDry session bodies buffer log text
    × ServesOn (plan_of session) session log × UnrefusedOn session log

-- the same while a message of channel zero waits
pub record ListensWaiting (session : Held) (bodies : List Body) (buffer : List ℕ)
    (log : List Moment) (text : List ℕ) : Type 0 where
  pub on : WaitsOn session log
  pub taken : AreTaken session
  pub gathers : Gathers (plan_of session) bodies buffer text on.journal
  pub pruned : ArePruned on.journal bodies

-- ---- a frame that arrives

-- of the frame that arrived last these marks were taken: the bodies have their octets, and the
-- lines those of the answer that they end
pub record Takes (plan : PlainPlan) (bodies : List Body) (buffer text : List ℕ) (head : Head)
    (front : List Mark) (journal : List Item) : Type 0 where
  pub own : IsServed plan journal → is_there head.channel journal ≡ true → (ansno : ℕ)
      → body_of head.channel ansno bodies
      ≡ left_from (so_far head.channel ansno journal) (first_answer ansno) front
  pub others : IsServed plan journal → (number ansno : ℕ) → (number == 0) ≡ false
      → (number == head.channel) ≡ false → is_there number journal ≡ true
      → body_of number ansno bodies ≡ so_far number ansno journal
  pub lines : IsServed plan journal → lines plan journal ++ flat_map lines_of
      (cut_from (so_far head.channel head.ansno journal) (first_answer head.ansno) front)
      ≡ text ++ buffer

-- the same while a frame of this number, which arrived last, is taken: of its marks some were
-- taken, by so many parts at most, and the others are left
pub record ListensTaking (number count : ℕ) (session : Held) (bodies : List Body)
    (buffer : List ℕ) (log : List Moment) (text : List ℕ) : Type 0 where
  pub on : StandsOn session log
  pub before : List Item
  pub head : Head
  pub payload : List ℕ
  pub journal_is : on.journal ≡ passed Side.Received head payload ∷ before
  pub channel : head.channel ≡ number
  pub above : (head.channel == 0) ≡ false
  pub going : is_released on.journal ≡ false
  pub front : List Mark
  pub left : List Mark
  pub marks_are : map mark_modulo_2_64 (arrived_marks head payload before) ≡ front ++ left
  pub few : count + length left ≤ MAX_NUMBER + 1
  pub untaken : IsUntaken head.channel left session
  pub takes : Takes (plan_of session) bodies buffer text head front before
  pub pruned : ArePruned before bodies

-- a part of an answer to the first request goes on with its body, or ends it; another changes none
pub record PartOf (number : ℕ) (part : List Mark) (old new : List Body) : Type 0 where
  pub own : (ansno : ℕ) → body_of number ansno new
      ≡ left_from (body_of number ansno old) (first_answer ansno) part
  pub others : (n ansno : ℕ) → (n == number) ≡ false → body_of n ansno new ≡ body_of n ansno old

-- the lines of the answer that a part ends, whose octets are the first of these
abbrev pub part_lines : ℕ → Part → List ℕ → List Body → List ℕ
part_lines number part octets bodies = flat_map lines_of
    (cut_from (body_of number part.tag.ansno bodies) (first_answer part.tag.ansno)
    (part_marks part octets))
