-- How what happened on links in memory is kept: the octets of all entries in one list, and of each
-- entry its link, what it is and the place at which its octets end.
-- A contract sees the events alone, and how many more find room.
use Rattle.std.specs.Prelude.{◌≡◌, ℕ, ◌≤◌, List, [], ◌∷◌, reverse}
use Rattle.std.specs.List.{slice_range}
use Rattle.beep_wires.specs.Log.{Entry, read, wrote, quiet, ended, Event}
use Rattle.beep_memory.specs.declared.events.Deed.{Deed}
use Rattle.beep_memory.specs.declared.events.Mark.{Mark}

-- the events, the latest first, and how many more, and how many octets in them, find room
pub record Story : Type 0 where
  pub events : List Event
  pub room : ℕ

-- what was done, with these octets
abbrev pub entry_as : Deed → List ℕ → Entry
entry_as Deed.Read octets = read octets
entry_as Deed.Wrote octets = wrote octets
entry_as Deed.Quiet octets = quiet
entry_as Deed.Ended octets = ended

-- the events from a place in the octets on, the oldest first
abbrev pub events_from : ℕ → List ℕ → List Mark → List Event
events_from at octets [] = []
events_from at octets (mark ∷ marks) =
    record { link = mark.link; entry = entry_as mark.deed (slice_range octets at mark.end) }
    ∷ events_from mark.end octets marks

-- the places rise from this one to the last
abbrev pub Rises : ℕ → List Mark → ℕ → Type 0
Rises at [] last = at ≡ last
Rises at (mark ∷ marks) last = (at ≤ mark.end) × Rises mark.end marks last
