-- An end goes on to wait only where nothing is due (RFC 3080, section 2.6.1; RFC 3081, section
-- 3.1).
-- The code sends until its session has nothing more to send; here each entry of the log is looked
-- at as it comes.
use Rattle.std.specs.Prelude.{◌≡◌, ℕ, Bool, false, not, ◌&&◌, ◌||◌, List, [], ◌∷◌}
use Rattle.std.specs.List.{list_all}
use Rattle.std.specs.Option.{is_none}
use Rattle.beep_history.specs.declared.journal.Side.{Side}
use Rattle.beep_history.specs.Journal.{Item}
use Rattle.beep_history.specs.Marks.{passed_octets}
use Rattle.beep_journal.specs.Broken.{none_tunes}
use Rattle.beep_journal.specs.Journal.{Past, Shows, goes_on}
use Rattle.beep_journal.specs.Life.{history, is_released}
use Rattle.beep_journal.specs.Log.{Entry, read, wrote, quiet, ended, Moment, flat}
use Rattle.beep_lawful.specs.Due.{due, is_ready, NothingDue}
use Rattle.beep_talk.specs.Plan.{PlainPlan}
use Rattle.beep_script.specs.Desk.{live_numbers}
use Rattle.beep_script.specs.Script.{unsent}

-- ---- at one moment

-- all that arrived in the live life of a number is taken
abbrev pub taken_all : List Item → ℕ → ℕ
taken_all journal number = passed_octets Side.Received (history number journal)

-- nothing of the script is due: no SEQ, and no message that may go
abbrev pub IsSettled : PlainPlan → List Item → Type 0
IsSettled plan journal =
    NothingDue plan.terms.window (taken_all journal) (λ number. unsent plan number journal) journal

-- nothing is due on the channel of a number
abbrev pub is_settled_at : PlainPlan → List Item → ℕ → Bool
is_settled_at plan journal number =
    is_none (due plan.terms.window (taken_all journal number) number journal)
    && not (is_ready number (unsent plan number journal) journal)

-- the same as a test: nothing is due on channel zero, nor on one that is live
abbrev pub is_settled : PlainPlan → List Item → Bool
is_settled plan journal = list_all (is_settled_at plan journal) (0 ∷ live_numbers journal)

-- ---- over the log

-- the session that a log shows is over, by a broken rule or by its release
abbrev pub is_over : Past → Bool
is_over past = not (goes_on past) || is_released past.journal

-- unless the session is over, nothing of its script is due
abbrev pub IsIdle : PlainPlan → List Moment → Type 0
IsIdle plan log = (past : Past) → Shows none_tunes log past → is_over past ≡ false
    → IsSettled plan past.journal

-- wherever an end read, or found its link quiet or ended, nothing was due
abbrev pub IsPrompt : PlainPlan → List Entry → Type 0
IsPrompt plan [] = Unit {0}
IsPrompt plan (read octets ∷ log) = IsIdle plan (flat log) × IsPrompt plan log
IsPrompt plan (wrote octets ∷ log) = IsPrompt plan log
IsPrompt plan (quiet ∷ log) = IsIdle plan (flat log) × IsPrompt plan log
IsPrompt plan (ended ∷ log) = IsIdle plan (flat log) × IsPrompt plan log
