-- What happened on links: their reads, writes, quiet reads and ends, the latest first (RFC 3081,
-- section 2).
-- A link keeps none of it; links in memory keep what they gave and took.
use Rattle.std.specs.Prelude.{◌≡◌, ℕ, ◌==◌, if◌then◌else◌, Option, Some, None, List, [], ◌∷◌, ◌++◌, map}

-- a piece was read or written, a read was quiet, or the link ended
pub data Entry : Type 0 where
  read : List ℕ → Entry
  wrote : List ℕ → Entry
  quiet : Entry
  ended : Entry

-- an entry of the log of a link, by its number
pub record Event : Type 0 where
  pub link : ℕ
  pub entry : Entry

-- a log that is known grew by these entries, the latest first; one that isn't known stays so
abbrev pub Logs : Option (List Entry) → Option (List Entry) → List Entry → Type 0
Logs None None more = Unit {0}
Logs None (Some new) more = ⊥
Logs (Some old) None more = ⊥
Logs (Some old) (Some new) more = new ≡ more ++ old

abbrev pub events_of : ℕ → List Entry → List Event
events_of link entries = map (λ e. record { link = link; entry = e }) entries

-- the story of all links, where it is known, grew by these entries of one of them; one that isn't
-- known stays so
abbrev pub Enters : ℕ → Option (List Event) → Option (List Event) → List Entry → Type 0
Enters link None None more = Unit {0}
Enters link None (Some new) more = ⊥
Enters link (Some old) None more = ⊥
Enters link (Some old) (Some new) more = new ≡ events_of link more ++ old

-- the entries of one link
abbrev pub entries_of : ℕ → List Event → List Entry
entries_of link [] = []
entries_of link (event ∷ events) =
    if event.link == link then event.entry ∷ entries_of link events else entries_of link events

-- the log of a link is its part of the story of all
abbrev pub IsPart : ℕ → Option (List Event) → Option (List Entry) → Type 0
IsPart link (Some story) (Some log) = log ≡ entries_of link story
IsPart link (Some story) None = Unit {0}
IsPart link None log = Unit {0}
