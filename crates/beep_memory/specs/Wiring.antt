-- What links in memory are to a contract, and what each call makes of them.
-- The code keeps the octets of all entries in one list, and their room beside it.
use Rattle.std.specs.Prelude.{◌≡◌, ◌==◌, ◌||◌, ◌++◌, ℕ, zero, suc, ◌+◌, ◌-◌, ◌≤◌, nat_le, nat_lt, Bool, true, false, Option, Some, None, List, [], ◌∷◌, length, drop, if◌then◌else◌}
use Rattle.std.specs.List.{slice_get, list_all}
use Rattle.std.specs.Borrow.{GName}
use Rattle.beep_wires.specs.Counts.{next_count}
use Rattle.beep_wires.specs.Planned.{is_planned}
use Rattle.beep_wires.specs.Log.{Entry, wrote, Event, entries_of}
use Rattle.beep_wires.specs.Links.{Link, Counts, Ask, accept, dial, Asked, open_among}
use Rattle.beep_memory.specs.Gifts.{Gift, entry_from, is_silent, left_after, is_over, gifts_need}
use Rattle.beep_memory.specs.declared.mem_wires.TheConstants.{LINKS_MAX}

-- a link that waits to be given: what it will give, and room for what is written
pub record Stock : Type 0 where
  pub gifts : List Gift
  pub room : ℕ

-- a link that was given: what it has still to give, what was written on it, the room left, and what
-- came of its calls
pub record Peer : Type 0 where
  pub gifts : List Gift
  pub written : List ℕ
  pub room : ℕ
  pub is_open : Bool
  pub has_ended : Bool
  pub faults : ℕ
  pub reads : ℕ

-- the links that were given, by their numbers, and those that wait, in order; what was asked and
-- what happened, the latest first; the calls that are to fail, and counts of calls
pub record Wiring : Type 0 where
  pub peers : List Peer
  pub waiting : List Stock
  pub asked : List Asked
  pub story : List Event
  pub fails : List ℕ
  pub calls : ℕ
  pub accepts : ℕ
  pub dials : ℕ
  pub quiets : ℕ

-- no link yet
abbrev pub wiring_of : List ℕ → Wiring
wiring_of fails = record {
  peers = [];
  waiting = [];
  asked = [];
  story = [];
  fails = fails;
  calls = 0;
  accepts = 0;
  dials = 0;
  quiets = 0;
}

-- ---- one link

-- before its first read
abbrev pub peer_of : Stock → Peer
peer_of s = record {
  gifts = s.gifts;
  written = [];
  room = s.room;
  is_open = true;
  has_ended = false;
  faults = 0;
  reads = 0;
}

-- after a read into a buffer of this length
abbrev pub peer_read : Peer → ℕ → Peer
peer_read p room = record p {
  gifts = left_after p.gifts room;
  has_ended = is_over p.gifts;
  reads = next_count p.reads;
}

-- after a read that failed
abbrev pub peer_unread : Peer → Peer
peer_unread p = record p {
  has_ended = false;
  faults = next_count p.faults;
  reads = next_count p.reads;
}

-- after a write that took these octets
abbrev pub peer_written : Peer → List ℕ → Peer
peer_written p octets = record p {
  written = p.written
      ++ octets;
  room = p.room - length octets;
}

-- after a write that failed
abbrev pub peer_unwritten : Peer → Peer
peer_unwritten p = record p { faults = next_count p.faults }

-- after it was shut
abbrev pub peer_shut : Peer → Peer
peer_shut p = record p { is_open = false }

-- how many entries it can still have, and how many octets they can hold
abbrev pub peer_need : Peer → ℕ
peer_need p = gifts_need p.gifts + p.room + (if p.has_ended then 0 else 1)

abbrev pub stock_need : Stock → ℕ
stock_need s = gifts_need s.gifts + s.room + 1

abbrev pub peers_need : List Peer → ℕ
peers_need [] = 0
peers_need (p ∷ peers) = peer_need p + peers_need peers

abbrev pub stocks_need : List Stock → ℕ
stocks_need [] = 0
stocks_need (s ∷ stocks) = stock_need s + stocks_need stocks

-- ---- a link by its number

abbrev pub is_open_of : Option Peer → Bool
is_open_of None = false
is_open_of (Some p) = p.is_open

abbrev pub has_ended_of : Option Peer → Bool
has_ended_of None = false
has_ended_of (Some p) = p.has_ended

abbrev pub faults_of : Option Peer → ℕ
faults_of None = 0
faults_of (Some p) = p.faults

abbrev pub reads_of : Option Peer → ℕ
reads_of None = 0
reads_of (Some p) = p.reads

-- what is known of a link with this log
abbrev pub link_of : List Entry → Option Peer → Link
link_of log p = record {
  log = Some log;
  is_open = is_open_of p;
  has_ended = has_ended_of p;
  faults = faults_of p;
  reads = reads_of p;
}

abbrev pub link_at : Wiring → ℕ → Link
link_at w link = link_of (entries_of link w.story) (slice_get w.peers link)

-- how many links are open
abbrev pub open_count : List Peer → ℕ
open_count peers = open_among (λ link. link_of [] (slice_get peers link)) (length peers)

-- what a link has still to give, and the room on it
abbrev pub gifts_of : Option Peer → List Gift
gifts_of None = []
gifts_of (Some p) = p.gifts

abbrev pub room_of : Option Peer → ℕ
room_of None = 0
room_of (Some p) = p.room

abbrev pub written_of : Option Peer → List ℕ
written_of None = []
written_of (Some p) = p.written

-- a list with one link changed
abbrev pub changed : (Peer → Peer) → List Peer → ℕ → List Peer
changed f [] link = []
changed f (p ∷ peers) zero = f p ∷ peers
changed f (p ∷ peers) (suc link) = p ∷ changed f peers link

-- the counts that belong to no link
abbrev pub counts_of : Wiring → Counts
counts_of w =
    record { given = length w.peers; accepts = w.accepts; dials = w.dials; quiets = w.quiets }

-- they pass on no call
abbrev pub no_lender : Option GName
no_lender = None

-- the links of these events come before this number
abbrev pub are_before : ℕ → List Event → Bool
are_before count events = list_all (λ e. nat_lt e.link count) events

-- ---- what a call makes of all

-- no link waits
abbrev pub has_none : List Stock → Bool
has_none [] = true
has_none (stock ∷ waiting) = false

-- the next accept or dial fails: it is planned to, no link waits, or no number is left
abbrev pub is_refused : Wiring → Bool
is_refused w = is_planned w.fails w.calls || has_none w.waiting || nat_le LINKS_MAX (length w.peers)

-- the first link that waits, after those that were given
abbrev pub opened : List Peer → List Stock → List Peer
opened peers [] = peers
opened peers (stock ∷ waiting) = peers ++ peer_of stock ∷ []

abbrev pub accepts_after : Ask → ℕ → ℕ
accepts_after (accept bind port) count = next_count count
accepts_after (dial host port) count = count

abbrev pub dials_after : Ask → ℕ → ℕ
dials_after (accept bind port) count = count
dials_after (dial host port) count = next_count count

-- after an accept or a dial that failed
abbrev pub wiring_refused : Wiring → Ask → Wiring
wiring_refused w ask = record w {
  asked = record { ask = ask; beside = open_count w.peers; link = None } ∷ w.asked;
  calls = next_count w.calls;
  accepts = accepts_after ask w.accepts;
  dials = dials_after ask w.dials;
}

-- after one that gave a link
abbrev pub wiring_given : Wiring → Ask → Wiring
wiring_given w ask = record w {
  peers = opened w.peers w.waiting;
  waiting = drop 1 w.waiting;
  asked = record { ask = ask; beside = open_count w.peers; link = Some (length w.peers) }
      ∷ w.asked;
  calls = next_count w.calls;
}

-- after a read that failed
abbrev pub wiring_unread : Wiring → ℕ → Wiring
wiring_unread w link =
    record w { peers = changed peer_unread w.peers link; calls = next_count w.calls }

-- after a read into a buffer of this length
abbrev pub wiring_read : Wiring → ℕ → ℕ → Wiring
wiring_read w link room =
    let gifts = gifts_of (slice_get w.peers link) in
    record w {
      peers = changed (λ p. peer_read p room) w.peers link;
      story = record { link = link; entry = entry_from gifts room } ∷ w.story;
      calls = next_count w.calls;
      quiets = if is_silent gifts then next_count w.quiets else w.quiets;
    }

-- the next write on a link fails: it is planned to, or no room is left on the link
abbrev pub is_unwritten : Wiring → ℕ → Bool
is_unwritten w link = is_planned w.fails w.calls || (room_of (slice_get w.peers link) == 0)

-- after a write that failed
abbrev pub wiring_unwritten : Wiring → ℕ → Wiring
wiring_unwritten w link =
    record w { peers = changed peer_unwritten w.peers link; calls = next_count w.calls }

-- after a write that took these octets
abbrev pub wiring_written : Wiring → ℕ → List ℕ → Wiring
wiring_written w link octets = record w {
  peers = changed (λ p. peer_written p octets) w.peers link;
  story = record { link = link; entry = wrote octets } ∷ w.story;
  calls = next_count w.calls;
}

-- after a link was shut
abbrev pub wiring_shut : Wiring → ℕ → Wiring
wiring_shut w link = record w { peers = changed peer_shut w.peers link }

-- ---- the room for what can still happen

-- how many entries, and how many octets in them, all links can still have
abbrev pub wiring_need : List Peer → List Stock → ℕ
wiring_need peers waiting = peers_need peers + stocks_need waiting

-- it is there for all of them, each event is of a link that was given, and each link has a number
abbrev pub Holds : List Peer → List Stock → List Event → ℕ → Type 0
Holds peers waiting events room =
    (wiring_need peers waiting ≤ room) × (are_before (length peers) events ≡ true)
    × (length peers ≤ LINKS_MAX)
