-- What `show` says of the octets that it read, status by status (RFC 3080, section 2.2.1).
-- Each report is over all octets that were read; the code knows one read at a time.
use Rattle.std.specs.Prelude.{◌≡◌, ℕ, ◌<◌, ◌≤◌, false, List, [], ◌∷◌, ◌++◌, length}
use Rattle.std.specs.List.{AllByRecursion}
use Rattle.std.specs.Io.KnownBytes.{Appends, Consumes}
use Rattle.beep_frame.specs.declared.rule.Rule.{Rule}
use Rattle.beep_frame.specs.Frame.{Frame}
use Rattle.beep_frame.specs.Stream.{Stream, IsWithin, BeginsWithin, BreaksBy}
use Rattle.beep_frame.specs.declared.limits.TheConstants.{MAX_PAYLOAD}
use Rattle.beep_wires.specs.Counts.{Rose}
use Rattle.beep_wires.specs.States.{SourceState, SinkState}
use Rattle.beep_wires.specs.Transfer.{AppendsPrefix}
use Rattle.beep_input.specs.Whole.{HasEnded}
use Rattle.beep_words.specs.declared.command.ShowSettings.{ShowSettings as Settings}
use Rattle.beep_show.specs.Texts.{AreLines, totals, usage_line, read_fault_line, cut_line, spent_line, broken_line}

-- the octets are these frames and this rest, and no header that is whole says a size above the
-- limit
pub record IsRead (octets : List ℕ) (frames : List Frame) (rest : List ℕ) : Type 0 where
  pub stream : Stream octets frames rest
  pub within : AllByRecursion (IsWithin MAX_PAYLOAD) frames
  pub begins_within : BeginsWithin MAX_PAYLOAD rest

-- the text is the lines of these frames and then a last line
pub record IsText (settings : Settings) (frames : List Frame) (last text : List ℕ) : Type 0 where
  pub lines : List ℕ
  pub are_lines : AreLines settings.elements [] frames lines
  pub text_is : text ≡ lines ++ last

-- status 0: whole frames alone, of fewer octets than are read at most
pub record IsWhole (settings : Settings) (octets text : List ℕ) : Type 0 where
  pub frames : List Frame
  pub read : IsRead octets frames []
  pub fewer : length octets < settings.octets
  pub is_text : IsText settings frames (totals frames) text

-- status 3: the stream breaks a rule at the octet whose number is printed, after these frames
pub record IsBroken (settings : Settings) (octets text : List ℕ) : Type 0 where
  pub frames : List Frame
  pub before : List ℕ
  pub rest : List ℕ
  pub octet : ℕ
  pub others : List ℕ
  pub rule : Rule
  pub octets_are : octets ≡ before ++ octet ∷ others
  pub few : length octets ≤ settings.octets
  pub read : IsRead before frames rest
  pub breaks : BreaksBy rule MAX_PAYLOAD before frames octet
  pub is_text : IsText settings frames (broken_line rule (length before)) text

-- status 4: a read failed after these frames and this rest, of fewer octets than are read at most
pub record IsFault (settings : Settings) (octets text : List ℕ) : Type 0 where
  pub frames : List Frame
  pub rest : List ℕ
  pub read : IsRead octets frames rest
  pub fewer : length octets < settings.octets
  pub is_text : IsText settings frames read_fault_line text

-- status 9: the input ended within a frame, after fewer octets than are read at most
pub record IsCut (settings : Settings) (octets text : List ℕ) : Type 0 where
  pub frames : List Frame
  pub rest : List ℕ
  pub read : IsRead octets frames rest
  pub fewer : length octets < settings.octets
  pub some : 0 < length rest
  pub is_text : IsText settings frames (cut_line (length rest)) text

-- status 11: as many octets were read as are read at most, and none of them ended the run
pub record IsSpent (settings : Settings) (octets text : List ℕ) : Type 0 where
  pub frames : List Frame
  pub rest : List ℕ
  pub read : IsRead octets frames rest
  pub all : length octets ≡ settings.octets
  pub is_text : IsText settings frames (spent_line settings.octets) text

-- a report, its status and its cause, of a source before the run and after it
pub data IsReport (settings : Settings) (old new : SourceState) (octets text : List ℕ) (status : ℕ)
    : Type 0 where
  whole : status ≡ 0 → HasEnded new → IsWhole settings octets text
      → IsReport settings old new octets text status
  broken : status ≡ 3 → IsBroken settings octets text → IsReport settings old new octets text status
  read_fault : status ≡ 4 → Rose old.faults new.faults → IsFault settings octets text
      → IsReport settings old new octets text status
  cut : status ≡ 9 → HasEnded new → IsCut settings octets text
      → IsReport settings old new octets text status
  spent : status ≡ 11 → new.ended ≡ false → IsSpent settings octets text
      → IsReport settings old new octets text status

-- the text begins the lines of the frames that are whole with the first of these octets
pub record BeginsLines (settings : Settings) (octets text : List ℕ) : Type 0 where
  pub first : List ℕ
  pub others : List ℕ
  pub frames : List Frame
  pub rest : List ℕ
  pub octets_are : octets ≡ first ++ others
  pub few : length octets ≤ settings.octets
  pub read : IsRead first frames rest
  pub after : List ℕ
  pub are_lines : AreLines settings.elements [] frames (text ++ after)

-- the text begins those lines, or the report of a status whose cause holds
pub data IsShort (settings : Settings) (old new : SourceState) (octets text : List ℕ) : Type 0 where
  in_lines : BeginsLines settings octets text → IsShort settings old new octets text
  in_report : (status : ℕ) (after : List ℕ)
      → IsReport settings old new octets (text ++ after) status
      → IsShort settings old new octets text

-- ---- a run

-- a source and a sink before a run and after it
pub record Run : Type 0 where
  pub source : SourceState
  pub source_after : SourceState
  pub sink : SinkState
  pub sink_after : SinkState

abbrev pub run_of : SourceState → SourceState → SinkState → SinkState → Run
run_of source source_after sink sink_after =
    record { source = source; source_after = source_after; sink = sink; sink_after = sink_after }

-- the same of an input and an output, before and after, by what each says of itself
abbrev pub run_by : {I O : Type 0} → (I → SourceState) → (O → SinkState) → I → O → I → O → Run
run_by source sink input output input_after output_after =
    run_of (source input) (source input_after) (sink output) (sink output_after)

-- some octets were read and some text was written, of which this holds
pub record Saw (P : List ℕ → List ℕ → Type 0) (run : Run) : Type 0 where
  pub octets : List ℕ
  pub text : List ℕ
  pub consumed : Consumes run.source.left run.source_after.left octets
  pub appended : Appends run.sink.written run.sink_after.written text
  pub holds : P octets text

-- what a run of `show` that ended so reports: a status with its report; 5, where a write failed; 7,
-- where it was out of memory
pub data Shown (settings : Settings) (status : ℕ) (run : Run) : Type 0 where
  report : Saw (λ octets text. IsReport settings run.source run.source_after octets text status) run
      → Shown settings status run
  write_fault : status ≡ 5 → Rose run.sink.faults run.sink_after.faults
      → Saw (IsShort settings run.source run.source_after) run → Shown settings status run
  no_memory : status ≡ 7 → Saw (BeginsLines settings) run → Shown settings status run

-- words that the program doesn't take: it says so, or the write of that line failed
pub data Refused (status : ℕ) (run : Run) : Type 0 where
  usage : status ≡ 1 → Appends run.sink.written run.sink_after.written usage_line
      → Refused status run
  write_fault : status ≡ 5 → Rose run.sink.faults run.sink_after.faults
      → AppendsPrefix run.sink.written run.sink_after.written usage_line → Refused status run

-- ---- when all went well

-- the input is whole frames of which each payload is within the limit, and fewer octets than are
-- read at most
pub record IsPlain (settings : Settings) (octets : List ℕ) : Type 0 where
  pub frames : List Frame
  pub read : IsRead octets frames []
  pub fewer : length octets < settings.octets

-- no count of faults rose
pub record NoFault (run : Run) : Type 0 where
  pub read : Rose run.source.faults run.source_after.faults → ⊥
  pub write : Rose run.sink.faults run.sink_after.faults → ⊥
