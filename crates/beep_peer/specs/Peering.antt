-- When a peer stands for the octets that it was fed, for its journal, and for what was given and
-- taken in each live life (RFC 3080, sections 2.2.1 and 2.3.1).
-- The code keeps no journal: it knows the live channels, and what waits on channel zero.
use Rattle.std.specs.Prelude.{◌≡◌, ℕ, ◌+◌, ◌≤◌, ◌==◌, ◌||◌, ◌&&◌, not, Bool, true, false, List, [], length, Option, None, Some, is_some}
use Rattle.beep_upright.specs.beep_frame.specs.declared.head.Head.{Head}
use Rattle.beep_upright.specs.beep_history.specs.Journal.{Item}
use Rattle.beep_upright.specs.beep_journal.specs.Life.{is_there, is_released}
use Rattle.beep_upright.specs.beep_channel.specs.Held.{Live}
use Rattle.beep_upright.specs.beep_turns.specs.declared.turns.TheConstants.{MAX_CHANNELS}
use Rattle.beep_upright.specs.beep_standing.specs.Standing.{Marks, AreLive, AreLiveBy}
use Rattle.beep_hearing.specs.Hears.{Hears, IsZeroTaken, Waits, HasZeroRoom}
use Rattle.beep_upright.specs.beep_asked.specs.Kept.{Kept, oldest}
use Rattle.beep_upright.specs.beep_management.specs.Managed.{Prepared, Managed, octets_prepared}
use Rattle.beep_upright.specs.beep_management.specs.Manages.{Manages}
use Rattle.beep_peer.specs.declared.peer.Peer.{Peer}

-- as many channels as there may be are live or starting, or fewer; channel zero is one more
abbrev pub AreFew : List Live → Managed → Type 0
AreFew channels m =
    length channels + (length m.starting + length m.granted) ≤ MAX_CHANNELS + 1

-- channel zero has room for all these answers together: each is given without memory
abbrev pub HasRoomFor : List Prepared → List Live → Type 0
HasRoomFor answers channels = HasZeroRoom (octets_prepared answers) (length answers) channels

-- the live channels and what is kept of channel zero stand for a journal, and there is room for the
-- answers that aren't given
pub record Holds (size : ℕ) (journal : List Item) (given taken : Marks) (channels : List Live)
    (m : Managed) : Type 0 where
  pub live : AreLiveBy size journal given taken channels
  pub zero : IsZeroTaken journal taken
  pub manages : Manages size journal given m
  pub few : AreFew channels m
  pub room : HasRoomFor m.answers channels

-- a peer stands for the octets that it was fed, with this rest of them, and for a journal
pub record IsPeer (size : ℕ) (fed rest : List ℕ) (journal : List Item) (given taken : Marks)
    (peer : Peer) : Type 0 where
  pub hears : Hears fed rest journal peer.ear
  pub holds : Holds size journal given taken peer.lives peer.management
  pub released : peer.released ≡ is_released journal

-- the same, while the last frame of a message of channel zero is whole and has not passed
pub record WaitsIn (size : ℕ) (fed : List ℕ) (journal : List Item) (given taken : Marks)
    (head : Head) (payload : List ℕ) (peer : Peer) : Type 0 where
  pub waits : Waits size fed journal given taken head payload peer.ear peer.lives
  pub manages : Manages size journal given peer.management
  pub few : AreFew peer.lives peer.management
  pub room : HasRoomFor peer.management.answers peer.lives
  pub released : peer.released ≡ is_released journal

-- ---- what a peer knows of itself

-- a rule was broken, or the session is released
abbrev pub is_over : Peer → Bool
is_over peer = peer.released || is_some peer.ear.broken

-- a whole message of channel zero has arrived and isn't settled
abbrev pub zero_waits : Peer → Bool
zero_waits peer = not (is_over peer) && is_some peer.ear.waits

-- the oldest request isn't the implied one
abbrev pub is_met : Option Kept → Bool
is_met None = true
is_met (Some kept) = not kept.implied

-- the peer's greeting was settled: no implied own request waits
abbrev pub is_welcomed : Managed → Bool
is_welcomed m = is_met (oldest m.mine.requests)

-- the own greeting has wholly gone: no implied request of the peer waits
abbrev pub is_greeted : Managed → Bool
is_greeted m = is_met (oldest m.theirs.requests)

-- ---- that there is a journal

-- the channels and what is kept stand for some journal
abbrev pub AreHeld : List Live → Managed → Type 0
AreHeld channels m =
    ∥ ((size : ℕ) × (journal : List Item) × (given : Marks) × (taken : Marks)
    × Holds size journal given taken channels m) ∥₁

-- a peer whose own windows have this size stands for something
abbrev pub IsGoing : ℕ → Peer → Type 0
IsGoing size peer =
    ∥ ((fed : List ℕ) × (rest : List ℕ) × (journal : List Item) × (given : Marks)
    × (taken : Marks) × IsPeer size fed rest journal given taken peer) ∥₁

-- it does so while a message of channel zero waits, whose last frame has this header
abbrev pub IsWaiting : ℕ → Head → Peer → Type 0
IsWaiting size head peer =
    ∥ ((fed : List ℕ) × (journal : List Item) × (given : Marks) × (taken : Marks)
    × (payload : List ℕ) × WaitsIn size fed journal given taken head payload peer) ∥₁

-- the channels stand for some journal, by the lives of an earlier part of it
abbrev pub AreStanding : ℕ → List Live → Type 0
AreStanding size channels =
    ∥ ((lives : List Item) × (journal : List Item) × (given : Marks) × (taken : Marks)
    × AreLive size lives journal given taken channels) ∥₁

-- it does one or the other, unless a rule was broken, and its channels always stand for something
pub record IsReached (size : ℕ) (peer : Peer) : Type 0 where
  pub going : peer.ear.broken ≡ None → peer.ear.waits ≡ None → IsGoing size peer
  pub waiting : (head : Head) → peer.ear.broken ≡ None → peer.ear.waits ≡ Some head
      → IsWaiting size head peer
  pub stands : AreStanding size peer.lives

-- ---- what was given and taken, after a step

-- what was given, or taken, in each life that was live before stays; in one that begins nothing was
pub record Carries (before after : List Item) (old new : Marks) : Type 0 where
  pub same : (n : ℕ) → (n == 0) ≡ false → is_there n before ≡ true → new n ≡ old n
  pub fresh : (n : ℕ) → is_there n before ≡ false → is_there n after ≡ true → new n ≡ []
