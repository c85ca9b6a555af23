-- What holds of each link of an end, by its log alone (RFC 3080, section 2; RFC 3195, section 3).
-- The code keeps no log.
use Rattle.std.specs.Prelude.{◌≡◌, ℕ, ◌==◌, Bool, true, false, List, [], ◌∷◌, ◌++◌, filter, flat_map, Option, None, Some}
use Rattle.beep_frame.specs.declared.rule.Rule.{Rule}
use Rattle.beep_frame.specs.Modulo.{modulo_2_64}
use Rattle.beep_history.specs.declared.journal.Side.{Side}
use Rattle.beep_history.specs.Journal.{Item}
use Rattle.beep_history.specs.Marks.{marks}
use Rattle.beep_history.specs.Moments.{mark_tag}
use Rattle.beep_journal.specs.Broken.{none_tunes}
use Rattle.beep_journal.specs.Journal.{Past, Shows}
use Rattle.beep_journal.specs.Life.{life, is_released}
use Rattle.beep_journal.specs.Log.{Entry, read, wrote, quiet, ended, Moment, put, flat}
use Rattle.beep_lawful.specs.Lawful.{IsLawfulLog}
use Rattle.beep_talk.specs.Plan.{PlainPlan}
use Rattle.beep_talk.specs.Talk.{reply_of}
use Rattle.beep_script.specs.Desk.{grants_own}
use Rattle.beep_script.specs.Script.{BeginsWith, KeepsScript, message_marks}
use Rattle.beep_script.specs.Prompt.{IsPrompt, is_over}
use Rattle.beep_script.specs.Lines.{lines}

-- ---- each end

-- the session that a log shows isn't over
abbrev pub GoesOn : List Moment → Type 0
GoesOn log = (past : Past) → Shows none_tunes log past → is_over past ≡ false

-- each of these octets is written while the session goes on
abbrev pub WritesGoing : List ℕ → List Moment → Type 0
WritesGoing [] log = Unit {0}
WritesGoing (octet ∷ octets) log = GoesOn log × WritesGoing octets (put octet ∷ log)

-- nothing happened on a link after the session was over: each read, each quiet one, the end of the
-- link and each octet that is written come while it goes on
abbrev pub Stops : List Entry → Type 0
Stops [] = Unit {0}
Stops (read octets ∷ log) = GoesOn (flat log) × Stops log
Stops (wrote octets ∷ log) = WritesGoing octets (flat log) × Stops log
Stops (quiet ∷ log) = GoesOn (flat log) × Stops log
Stops (ended ∷ log) = GoesOn (flat log) × Stops log

-- a rule that an end names, with its octet modulo 2^64, is the peer's first fault
abbrev pub NamesFault : Option (Rule × ℕ) → List Moment → Type 0
NamesFault None log = Unit {0}
NamesFault (Some (rule, place)) log = (past : Past) → Shows none_tunes log past
    → (octet : ℕ) × (place ≡ modulo_2_64 octet)
    × (past.fault ≡ Some (record { side = Side.Received; rule = rule; place = octet }))

-- an end that has this to do kept its part on a link with this log, and ended with this broken
-- rule, or otherwise: it sent only lawful frames, in each life the messages of its script from the
-- first on; it sent what was due before it waited; it did nothing after the first broken rule, and
-- names that
pub record EachEnd (plan : PlainPlan) (broken : Option (Rule × ℕ)) (log : List Entry) : Type 0 where
  pub lawful : IsLawfulLog plan.terms none_tunes (flat log)
  pub script : (past : Past) → Shows none_tunes (flat log) past → KeepsScript plan past.journal
  pub prompt : IsPrompt plan log
  pub stops : Stops log
  pub names : NamesFault broken (flat log)

-- ---- a sender

-- at some moment an item passed the last frame of the positive reply to the own request at this
-- position
pub record WasGranted (position : ℕ) (journal : List Item) : Type 0 where
  pub later : List Item
  pub item : Item
  pub earlier : List Item
  pub is : journal ≡ later ++ item ∷ earlier
  pub grants : grants_own position item earlier ≡ true

-- what passed in answer to the listener's first request is the lines, each once and in order, then
-- their end
abbrev pub HasSentLines : PlainPlan → List Item → Type 0
HasSentLines plan journal =
    filter (λ mark. (mark_tag mark).request == 0) (marks Side.Sent (life 1 1 journal))
    ≡ flat_map message_marks (reply_of plan.command plan.lines 0)

-- the session is released, the lines were sent, and the own close of channel 1 was granted, which
-- is the own request at position 2
pub record HasSentAll (plan : PlainPlan) (journal : List Item) : Type 0 where
  pub released : is_released journal ≡ true
  pub lines : HasSentLines plan journal
  pub closed : WasGranted 2 journal

-- the same of the session that a log shows
abbrev pub SendAll : PlainPlan → List Entry → Type 0
SendAll plan log =
    (past : Past) → Shows none_tunes (flat log) past → HasSentAll plan past.journal

-- ---- a listener

-- what was written is the lines of a journal, or a beginning of them where it isn't whole
abbrev pub AreWritten : Bool → List ℕ → List ℕ → Type 0
AreWritten true all text = text ≡ all
AreWritten false all text = BeginsWith all text

-- what was written of a link is the lines of the session that its log shows
abbrev pub ListenLines : PlainPlan → Bool → List Entry → List ℕ → Type 0
ListenLines plan whole log text = (past : Past) → Shows none_tunes (flat log) past
    → AreWritten whole (lines plan past.journal) text
