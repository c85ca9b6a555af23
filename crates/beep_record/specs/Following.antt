-- What replaying keeps of a session, for the proofs: a decoder and counts for each side, and a
-- judge.
use Rattle.std.specs.Prelude.{◌≡◌, ℕ, ◌%◌, Bool, not, ◌&&◌, List, [], ◌∷◌, ◌++◌, length, Option, None, Some}
use Rattle.beep_octets.specs.Numbers.{numbers_128}
use Rattle.beep_frame.specs.declared.head.Head.{Head}
use Rattle.beep_frame.specs.declared.limits.TheConstants.{MAX_PAYLOAD}
use Rattle.beep_frame.specs.Frame.{Frame, framed}
use Rattle.beep_frame.specs.Decoding.{WasFed}
use Rattle.beep_frame.specs.Fed.{fed_of}
use Rattle.beep_frame.specs.Modulo.{modulo_2_64}
use Rattle.beep_history.specs.declared.journal.Side.{Side}
use Rattle.beep_history.specs.Journal.{Item}
use Rattle.beep_journal.specs.Life.{is_released}
use Rattle.beep_journal.specs.Broken.{none_tunes}
use Rattle.beep_journal.specs.Journal.{Past, spelled, goes_on, TakesWhere}
use Rattle.beep_journal.specs.Texts.{frame_count, lines}
use Rattle.beep_record.specs.declared.verdict.Verdict.{Verdict}
use Rattle.beep_record.specs.declared.wire.Wire.{Wire}
use Rattle.beep_record.specs.Verdicts.{verdict_of}

-- a number of frames as it is counted
abbrev pub counted : ℕ → ℕ
counted n = n % numbers_128

-- the octets of a side
abbrev pub octets_of : Side → Past → List ℕ
octets_of side past = spelled side past.journal ++ past.rest side

-- one side stands for its part of a session
pub record IsSide (side : Side) (wire : Wire) (under : Option Head) (past : Past) : Type 0 where
  pub frames : List Frame
  pub was_fed : WasFed wire.decoder (fed_of (octets_of side past) frames (past.rest side) under)
  pub max : wire.decoder.tracker.max ≡ MAX_PAYLOAD
  pub used : wire.used ≡ modulo_2_64 (length (octets_of side past))
  pub count : wire.frames ≡ counted (frame_count side past.journal)

-- the side and the judge stand for some session that goes on
pub record IsHeld (side : Side) (wire : Wire) (under : Option Head)
    (judged : List Item → Type 0) : Type 0 where
  pub past : Past
  pub side_is : IsSide side wire under past
  pub judged_is : judged past.journal

-- the last octet ended the frame whose header is under way
pub record HasFrame (wire : Wire) (under : Option Head) : Type 0 where
  pub octets : List ℕ
  pub frames : List Frame
  pub head : Head
  pub payload : List ℕ
  pub begun : under ≡ Some head
  pub size : length payload ≡ head.size
  pub was_fed : WasFed wire.decoder (fed_of octets (frames ++ framed head payload ∷ []) [] None)

-- octets of a side count
abbrev pub counts : Side → Past → Bool
counts Side.Received past = goes_on past && not (is_released past.journal)
counts Side.Sent past = goes_on past

-- what octets of a side make of a session, one after another
abbrev pub TakesEach : Side → List ℕ → Past → Past → Type 0
TakesEach side [] old new = new ≡ old
TakesEach side (octet ∷ octets) old new =
    (next : Past) × TakesWhere (counts side old) none_tunes side octet old next
    × TakesEach side octets next new

-- what octets of a side made of a session, where these octets were written, and the side and the
-- judge stand for it
pub record Moved (side : Side) (octets : List ℕ) (past : Past) (verdict : Verdict) (wire : Wire)
    (under : Option Head) (judged : List Item → Type 0) (old new : List ℕ) : Type 0 where
  pub after : Past
  pub takes : TakesEach side octets past after
  pub verdict_is : verdict ≡ verdict_of after.fault
  pub side_is : after.fault ≡ None → IsSide side wire under after
  pub judged_is : after.fault ≡ None → judged after.journal
  pub gained : List ℕ
  pub lines_are : lines after.journal ≡ lines past.journal ++ gained
  pub text_is : new ≡ old ++ gained
