-- What links are to a contract: of each link its log and what came of its calls, and of all of them
-- the counts that belong to none.
-- The code of some may keep more, or nothing.
use Rattle.std.specs.Prelude.{◌≡◌, ℕ, zero, suc, if◌then◌else◌, ◌+◌, ◌≤◌, ◌⊎◌, Bool, true, false, Option, Some, None, List, [], ◌∷◌, ◌++◌, Result, Ok, Err}
use Rattle.beep_wires.specs.declared.links.WireError.{WireError}
use Rattle.beep_wires.specs.Counts.{Rose}
use Rattle.beep_wires.specs.Log.{Entry}

-- a link's log where it is known, whether it was given and isn't shut, whether a read gave its end,
-- how many of its reads and writes failed, and how many reads there were
pub record Link : Type 0 where
  pub log : Option (List Entry)
  pub is_open : Bool
  pub has_ended : Bool
  pub faults : ℕ
  pub reads : ℕ

-- how many links were given, how many accepts and dials failed, and how many reads were quiet
pub record Counts : Type 0 where
  pub given : ℕ
  pub accepts : ℕ
  pub dials : ℕ
  pub quiets : ℕ

-- what asks for a link: an accept on an address and a port, or a dial of a host and a port
pub data Ask : Type 0 where
  accept : List ℕ → ℕ → Ask
  dial : List ℕ → ℕ → Ask

-- a call that asked for a link, how many links were open then, and the link that it gave, or none
-- where it failed
pub record Asked : Type 0 where
  pub ask : Ask
  pub beside : ℕ
  pub link : Option ℕ

-- ---- a link that was given

-- nothing has happened on it yet
pub record IsFresh (link : Link) : Type 0 where
  pub unread : link.log ≡ None ⊎ link.log ≡ Some []
  pub is_open : link.is_open ≡ true
  pub going : link.has_ended ≡ false
  pub no_faults : link.faults ≡ 0
  pub no_reads : link.reads ≡ 0

-- nothing changed on other links
abbrev pub SameBeside : ℕ → (ℕ → Link) → (ℕ → Link) → Type 0
SameBeside link old new = (other : ℕ) → (other ≡ link → ⊥) → new other ≡ old other

-- a call that asked for a link left all links, but the one that it gave
abbrev pub LeavesLinks : Result ℕ WireError → (ℕ → Link) → (ℕ → Link) → Type 0
LeavesLinks (Ok link) old new = SameBeside link old new
LeavesLinks (Err e) old new = (link : ℕ) → new link ≡ old link

-- how many of the first links, so many, are open
abbrev pub open_among : (ℕ → Link) → ℕ → ℕ
open_among state zero = 0
open_among state (suc count) = open_among state count + (if (state count).is_open then 1 else 0)

-- what a call that asked for a link beside so many that were open adds to the list of these:
-- nothing because memory ran out
abbrev pub asked_by : Ask → ℕ → Result ℕ WireError → List Asked
asked_by ask beside (Ok link) = record { ask = ask; beside = beside; link = Some link } ∷ []
asked_by ask beside (Err WireError.Failed) =
    record { ask = ask; beside = beside; link = None } ∷ []
asked_by ask beside (Err WireError.NoMemory) = []

-- the list of these, where it is known, grew by so much; one that isn't known stays so
abbrev pub Asks : Option (List Asked) → Option (List Asked) → List Asked → Type 0
Asks None None more = Unit {0}
Asks None (Some new) more = ⊥
Asks (Some old) None more = ⊥
Asks (Some old) (Some new) more = new ≡ more ++ old

-- a link was given where one was answered
abbrev pub given_after : ℕ → Result ℕ WireError → ℕ
given_after given (Ok link) = given + 1
given_after given (Err e) = given

-- a count of faults rose where the call failed, and never falls
abbrev pub Faults : Result ℕ WireError → ℕ → ℕ → Type 0
Faults (Ok link) old new = old ≤ new
Faults (Err WireError.Failed) old new = (old ≤ new) × Rose old new
Faults (Err WireError.NoMemory) old new = old ≤ new
