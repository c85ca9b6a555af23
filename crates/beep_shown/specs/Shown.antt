-- What the plain program keeps of a session, and the log for which it stands (RFC 3080, section
-- 2.2.1).
-- The program keeps a decoder of each side; the session that a log shows is octets, frames and a
-- journal.
use Rattle.std.specs.Prelude.{◌≡◌, ℕ, true, not, List, ◌∷◌, map, Option, None, Some}
use Rattle.beep_frame.specs.declared.head.Head.{Head}
use Rattle.beep_frame.specs.declared.rule.Rule.{Rule}
use Rattle.beep_frame.specs.declared.limits.TheConstants.{MAX_PAYLOAD}
use Rattle.beep_frame.specs.Frame.{Frame}
use Rattle.beep_frame.specs.Decoding.{DecoderState, WasFed}
use Rattle.beep_frame.specs.Fed.{fed_of}
use Rattle.beep_history.specs.declared.journal.Side.{Side}
use Rattle.beep_history.specs.Journal.{Item, history_of}
use Rattle.beep_journal.specs.Broken.{none_tunes}
use Rattle.beep_journal.specs.Journal.{Past, Shows, goes_on}
use Rattle.beep_journal.specs.Log.{Entry, Moment, got, put}
use Rattle.beep_record.specs.declared.log.Entry.{Entry as Kept}
use Rattle.beep_record.specs.Logged.{entry_of}
use Rattle.beep_record.specs.Following.{octets_of}
use Rattle.beep_shown.specs.declared.shown.Shown.{Shown}

-- the log that entries stand for, the latest first in both
abbrev pub log_in : List Kept → List Entry
log_in entries = map entry_of entries

-- an octet of a side
abbrev pub moment_of : Side → ℕ → Moment
moment_of Side.Received octet = got octet
moment_of Side.Sent octet = put octet

-- the decoder of a side
abbrev pub decoder_of : Side → Shown → DecoderState
decoder_of Side.Received shown = shown.received
decoder_of Side.Sent shown = shown.sent

-- a decoder was fed the octets of a side
pub record IsFed (side : Side) (decoder : DecoderState) (past : Past) : Type 0 where
  pub frames : List Frame
  pub head : Option Head
  pub was_fed : WasFed decoder (fed_of (octets_of side past) frames (past.rest side) head)
  pub max : decoder.tracker.max ≡ MAX_PAYLOAD

-- what is kept stands for a session
pub record IsShown (shown : Shown) (past : Past) : Type 0 where
  pub journal_is : history_of shown.journal.items ≡ past.journal
  pub broken_is : shown.broken ≡ not (goes_on past)
  pub fed : goes_on past ≡ true → (side : Side) → IsFed side (decoder_of side shown) past

-- what is kept stands for the session that a log shows
abbrev pub ShowsBy : Shown → List Moment → Type 0
ShowsBy shown log = (past : Past) × Shows none_tunes log past × IsShown shown past

-- ---- what the end of a header, a frame and a SEQ makes of what is kept

-- an item joined the journal, or a rule was broken
abbrev pub Joins : Option Rule → Item → Shown → Shown → Type 0
Joins None item old new = (history_of new.journal.items ≡ item ∷ history_of old.journal.items)
    × (new.broken ≡ old.broken)
Joins (Some rule) item old new = (history_of new.journal.items ≡ history_of old.journal.items)
    × (new.broken ≡ true)

-- both decoders stay
abbrev pub SameSides : Shown → Shown → Type 0
SameSides old new = (new.received ≡ old.received) × (new.sent ≡ old.sent)
