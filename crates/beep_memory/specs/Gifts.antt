-- What a link in memory gives, one read after another.
-- The code keeps all of it and a place in it; here only what is left is seen.
use Rattle.std.specs.Prelude.{ℕ, ◌+◌, ◌<◌, ◌≤◌, min, nat_le, Bool, true, false, List, [], ◌∷◌, length, take, drop, if◌then◌else◌}
use Rattle.beep_wires.specs.Counts.{next_count}
use Rattle.beep_wires.specs.Log.{Entry, read, quiet, ended}
use Rattle.beep_wires.specs.declared.links.Got.{Got}
use Rattle.beep_memory.specs.declared.gives.Give.{Give}

-- octets, which one read or several give, or one read that is quiet
pub data Gift : Type 0 where
  piece : List ℕ → Gift
  silence : Gift

-- what a value in code stands for
abbrev pub gift_of : Give → Gift
gift_of (Give.Bytes octets) = piece octets.octets
gift_of Give.Quiet = silence

-- a piece has some octets
abbrev pub is_some : Gift → Bool
is_some (piece []) = false
is_some (piece (octet ∷ octets)) = true
is_some silence = true

-- what a read into a buffer of this length gives: as much of the next piece as fits
abbrev pub got_from : List Gift → ℕ → Got
got_from [] room = Got.End
got_from (piece octets ∷ gifts) room = Got.Bytes (min (length octets) room)
got_from (silence ∷ gifts) room = Got.Quiet

-- the octets that it gives
abbrev pub octets_from : List Gift → ℕ → List ℕ
octets_from [] room = []
octets_from (piece octets ∷ gifts) room = take room octets
octets_from (silence ∷ gifts) room = []

-- a read was the last
abbrev pub ends : Got → Bool
ends (Got.Bytes n) = false
ends Got.Quiet = false
ends Got.End = true

-- what came fits a buffer of this length
abbrev pub GotFits : Got → ℕ → Type 0
GotFits (Got.Bytes n) room = (0 < n) × (n ≤ room)
GotFits Got.Quiet room = Unit {0}
GotFits Got.End room = Unit {0}

-- what a read that gave this adds to the log, from the buffer that it filled
abbrev pub entry_got : Got → List ℕ → Entry
entry_got (Got.Bytes n) buf = read (take n buf)
entry_got Got.Quiet buf = quiet
entry_got Got.End buf = ended

-- the room that this takes
abbrev pub got_need : Got → ℕ
got_need (Got.Bytes n) = n
got_need Got.Quiet = 1
got_need Got.End = 1

-- the count of quiet reads after it
abbrev pub quiets_counted : Got → ℕ → ℕ
quiets_counted (Got.Bytes n) count = count
quiets_counted Got.Quiet count = next_count count
quiets_counted Got.End count = count

-- what it adds to the log
abbrev pub entry_from : List Gift → ℕ → Entry
entry_from [] room = ended
entry_from (piece octets ∷ gifts) room = read (take room octets)
entry_from (silence ∷ gifts) room = quiet

-- the next read is quiet
abbrev pub is_silent : List Gift → Bool
is_silent [] = false
is_silent (piece octets ∷ gifts) = false
is_silent (silence ∷ gifts) = true

-- what is left after it
abbrev pub left_after : List Gift → ℕ → List Gift
left_after [] room = []
left_after (piece octets ∷ gifts) room =
    if nat_le (length octets) room then gifts else piece (drop room octets) ∷ gifts
left_after (silence ∷ gifts) room = gifts

-- nothing is left
abbrev pub is_over : List Gift → Bool
is_over [] = true
is_over (gift ∷ gifts) = false

-- what is left where so many octets of the first piece are gone
abbrev pub left_from : ℕ → List Gift → List Gift
left_from taken [] = []
left_from taken (piece octets ∷ gifts) = piece (drop taken octets) ∷ gifts
left_from taken (silence ∷ gifts) = silence ∷ gifts

-- what is read in several reads stands in at most so many entries, with at most so many octets
abbrev pub gift_need : Gift → ℕ
gift_need (piece octets) = length octets
gift_need silence = 1

abbrev pub gifts_need : List Gift → ℕ
gifts_need [] = 0
gifts_need (gift ∷ gifts) = gift_need gift + gifts_need gifts
