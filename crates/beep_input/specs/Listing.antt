-- The lines of an input, listed as its octets come.
-- No contract of a public call cites it.
use Rattle.std.specs.Prelude.{◌≡◌, ℕ, ◌+◌, ◌≤◌, Bool, true, false, nat_lt, Option, None, Some, List, ◌++◌, length, if◌then◌else◌}
use Rattle.std.specs.Io.KnownBytes.{Consumes}
use Rattle.beep_wires.specs.States.{SourceState}
use Rattle.beep_input.specs.declared.lines.Unlisted.{Unlisted}
use Rattle.beep_input.specs.declared.whole.TheConstants.{MAX_INPUT}
use Rattle.beep_input.specs.declared.whole.Unread.{Unread}
use Rattle.beep_input.specs.Whole.{HasEnded}
use Rattle.std.specs.Option.{option_or}
use Rattle.prof_raw.specs.declared.line.TheConstants.{ENTRY_MAX}
use Rattle.beep_input.specs.declared.listing.Listing.{Listing}
use Rattle.beep_input.specs.declared.listing.Gathered.{Gathered}
use Rattle.beep_input.specs.Lines.{first_long, line_after, lines_of, pieces_at_lf, without_cr}
use Rattle.beep_input.specs.Walk.{lf_len}

-- the number of a piece whose line is too long
abbrev pub long_at : ℕ → List ℕ → Option ℕ
long_at number piece = if nat_lt ENTRY_MAX (length (without_cr piece)) then Some number else None

-- the lines of these octets, which an LF ends or which are none, whatever comes after them
pub record Lists (octets : List ℕ) (listing : Listing) : Type 0 where
  pub few : listing.number ≤ length octets + 1
  pub count : (more : List ℕ) → line_after (octets ++ more) + 1 ≡ listing.number + line_after more
  pub long_is : (more : List ℕ) → first_long 1 (pieces_at_lf (octets ++ more))
      ≡ option_or listing.long (first_long listing.number (pieces_at_lf more))
  pub lines_are : listing.long ≡ None → (more : List ℕ) → lines_of (octets ++ more)
      ≡ listing.lines ++ lines_of more

-- the octets that came are those of the lines that an LF ended, and those after them
pub record Holds (octets : List ℕ) (gathered : Gathered) : Type 0 where
  pub ended : List ℕ
  pub lists : Lists ended gathered.listing
  pub no_lf : lf_len gathered.begun.octets ≡ length gathered.begun.octets
  pub octets_are : octets ≡ ended ++ gathered.begun.octets

-- what came of a source, and is gathered
pub record HasFed (octets : List ℕ) (gathered : Gathered) (old new : SourceState) : Type 0 where
  pub holds : Holds octets gathered
  pub consumed : Consumes old.left new.left octets
  pub most : length octets ≤ MAX_INPUT
  pub kept : old.faults ≤ new.faults

-- the whole input was gathered, or as much as is kept
abbrev pub Gathers : Bool → Gathered → SourceState → SourceState → Type 0
Gathers true gathered old new = (octets : List ℕ) × HasFed octets gathered old new × HasEnded new
Gathers false gathered old new = (octets : List ℕ) × HasFed octets gathered old new
    × (length octets ≡ MAX_INPUT) × (new.ended ≡ false)

-- why nothing is listed where nothing is read
abbrev pub unlisted_by : Unread → Unlisted
unlisted_by Unread.Fault = Unlisted.Fault
unlisted_by Unread.NoMemory = Unlisted.NoMemory
