-- What the grant of a request of channel zero makes of the live channels (RFC 3080, sections
-- 2.3.1.2 and 2.3.1.3).
-- The code asks which numbers are live, and keeps no moment.
use Rattle.std.specs.Prelude.{◌≡◌, ℕ, nat_lt, Bool, true, false, not, ◌&&◌, if◌then◌else◌, List, [], Option, None, Some, is_some}
use Rattle.beep_asked.specs.beep_mgmt.specs.Form.{Form, greeting, start, chosen, close, okay, fault}
use Rattle.beep_asked.specs.beep_channel.specs.Held.{Live}
use Rattle.beep_asked.specs.beep_lives.specs.Lives.{live_at}
use Rattle.beep_asked.specs.beep_lives.specs.Edits.{Joins, Leaves}
use Rattle.beep_asked.specs.beep_standing.specs.Standing.{Marks, with_marks}
use Rattle.beep_management.specs.Manages.{IsFresh}

-- the numbers that are live, by the channels
abbrev pub is_live_in : List Live → ℕ → Bool
is_live_in channels number = is_some (live_at number channels)

-- where the test holds a channel of this number joins, in which nothing has happened; else all stay
abbrev pub JoinsWhere : Bool → ℕ → ℕ → Live → List Live → List Live → Type 0
JoinsWhere true size number channel old new =
    IsFresh size number channel × Joins channel old new
JoinsWhere false size number channel old new = new ≡ old

-- where the test holds the channel of this number leaves; else all stay
abbrev pub LeavesWhere : Bool → ℕ → List Live → List Live → Type 0
LeavesWhere true number old new = Leaves number old new
LeavesWhere false number old new = new ≡ old

-- what was granted of a request that says this, and names a live life or not: a start has its
-- channel join, where its number isn't live; a close has the channel leave that it names
abbrev pub Does : ℕ → Option Form → Bool → Live → List Live → List Live → Type 0
Does size None names channel old new = new ≡ old
Does size (Some (greeting features localize profiles)) names channel old new = new ≡ old
Does size (Some (start number server profiles)) names channel old new =
    JoinsWhere (nat_lt 0 number && not (is_live_in old number)) size number channel old new
Does size (Some (chosen profile)) names channel old new = new ≡ old
Does size (Some (close number code note)) names channel old new =
    LeavesWhere names number old new
Does size (Some okay) names channel old new = new ≡ old
Does size (Some (fault code note)) names channel old new = new ≡ old

-- what was given, or taken, in each live life after that: nothing in one that begins
abbrev pub marks_after : Option Form → List Live → Marks → Marks
marks_after None old marks = marks
marks_after (Some (greeting features localize profiles)) old marks = marks
marks_after (Some (start number server profiles)) old marks =
    if nat_lt 0 number && not (is_live_in old number) then with_marks number [] marks else marks
marks_after (Some (chosen profile)) old marks = marks
marks_after (Some (close number code note)) old marks = marks
marks_after (Some okay) old marks = marks
marks_after (Some (fault code note)) old marks = marks
