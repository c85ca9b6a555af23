-- What calls of links in memory answer, and what they leave.
-- The code takes each link and each number of a call out of its lists; here the answer is said of
-- the links before the call and after it.
use Rattle.std.specs.Prelude.{◌≡◌, ◌≤◌, ℕ, ◌++◌, Bool, true, false, min, List, length, take, drop, Result, Ok, Err}
use Rattle.std.specs.List.{slice_get}
use Rattle.beep_wires.specs.declared.count.TheConstants.{COUNT_MAX}
use Rattle.beep_wires.specs.declared.failed.Failed.{Failed}
use Rattle.beep_wires.specs.declared.links.Got.{Got}
use Rattle.beep_wires.specs.declared.links.WireError.{WireError}
use Rattle.beep_wires.specs.Planned.{is_planned}
use Rattle.beep_wires.specs.Links.{Ask}
use Rattle.beep_memory.specs.Gifts.{got_from, octets_from, GotFits}
use Rattle.beep_memory.specs.Wiring.{Wiring, gifts_of, room_of, faults_of, is_refused, wiring_given, wiring_refused, wiring_read, wiring_unread, is_unwritten, wiring_written, wiring_unwritten}

-- no count is above its greatest value
pub record IsCounted (w : Wiring) : Type 0 where
  pub accepts : w.accepts ≤ COUNT_MAX
  pub dials : w.dials ≤ COUNT_MAX
  pub quiets : w.quiets ≤ COUNT_MAX

-- an accept or a dial gives the next link, or fails where it must; out of memory nothing
-- changes
abbrev pub Answers : Ask → Result ℕ WireError → Wiring → Wiring → Type 0
Answers ask (Ok link) old new =
    (is_refused old ≡ false) × (link ≡ length old.peers) × (new ≡ wiring_given old ask)
Answers ask (Err WireError.Failed) old new =
    (is_refused old ≡ true) × (new ≡ wiring_refused old ask)
Answers ask (Err WireError.NoMemory) old new = new ≡ old

-- a read gives what comes next on the link, or fails where it is planned to
abbrev pub Reads : ℕ → Result Got Failed → List ℕ → List ℕ → Wiring → Wiring → Type 0
Reads link (Ok got) buf filled old new =
    let gifts = gifts_of (slice_get old.peers link) in
    let octets = octets_from gifts (length buf) in
    (is_planned old.fails old.calls ≡ false) × (got ≡ got_from gifts (length buf))
    × (filled ≡ octets ++ drop (length octets) buf) × (new ≡ wiring_read old link (length buf))
    × GotFits got (length buf)
Reads link (Err failed) buf filled old new =
    (is_planned old.fails old.calls ≡ true) × (filled ≡ buf) × (new ≡ wiring_unread old link)
    × (faults_of (slice_get old.peers link) ≤ COUNT_MAX)

-- a write takes what finds room, or fails where it is planned to or no room is left
abbrev pub Writes : ℕ → Result ℕ Failed → List ℕ → Wiring → Wiring → Type 0
Writes link (Ok n) bytes old new =
    (is_unwritten old link ≡ false) × (n ≡ min (room_of (slice_get old.peers link)) (length bytes))
    × (new ≡ wiring_written old link (take n bytes))
Writes link (Err failed) bytes old new =
    (is_unwritten old link ≡ true) × (new ≡ wiring_unwritten old link)
    × (faults_of (slice_get old.peers link) ≤ COUNT_MAX)
