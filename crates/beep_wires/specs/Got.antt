-- What a read and a write of a link tell, and what they add to its log.
-- The code answers and keeps no log.
use Rattle.std.specs.Prelude.{◌<◌, ◌≤◌, ℕ, Bool, true, false, List, [], ◌∷◌, length, take, Result, Ok, Err}
use Rattle.beep_wires.specs.declared.links.Got.{Got}
use Rattle.beep_wires.specs.Counts.{Rose}
use Rattle.beep_wires.specs.Log.{Entry, read, wrote, quiet, ended}

-- what came fits the buffer
abbrev pub GotWithin : {E : Type 0} → Result Got E → List ℕ → Type 0
GotWithin (Ok (Got.Bytes n)) buf = (0 < n) × (n ≤ length buf)
GotWithin (Ok Got.Quiet) buf = Unit {0}
GotWithin (Ok Got.End) buf = Unit {0}
GotWithin (Err e) buf = Unit {0}

-- what a read adds to the log
abbrev pub read_entries : {E : Type 0} → Result Got E → List ℕ → List Entry
read_entries (Ok (Got.Bytes n)) buf = read (take n buf) ∷ []
read_entries (Ok Got.Quiet) buf = quiet ∷ []
read_entries (Ok Got.End) buf = ended ∷ []
read_entries (Err e) buf = []

-- what a write adds to the log
abbrev pub write_entries : {E : Type 0} → Result ℕ E → List ℕ → List Entry
write_entries (Ok n) octets = wrote (take n octets) ∷ []
write_entries (Err e) octets = []

-- the read gave the link's end
abbrev pub gives_end : {E : Type 0} → Result Got E → Bool
gives_end (Ok (Got.Bytes n)) = false
gives_end (Ok Got.Quiet) = false
gives_end (Ok Got.End) = true
gives_end (Err e) = false

-- a quiet read is counted, and the count never falls
abbrev pub Quiets : {E : Type 0} → Result Got E → ℕ → ℕ → Type 0
Quiets (Ok (Got.Bytes n)) old new = old ≤ new
Quiets (Ok Got.Quiet) old new = (old ≤ new) × Rose old new
Quiets (Ok Got.End) old new = old ≤ new
Quiets (Err e) old new = old ≤ new
