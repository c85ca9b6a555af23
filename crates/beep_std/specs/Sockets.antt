-- What links over TCP are to a contract, and what each call makes of them: counts alone.
-- The code holds the sockets of the system and those that wait for peers beside them.
use Rattle.std.specs.Prelude.{ℕ, zero, suc, Bool, true, false, Option, Some, None, List, [], ◌∷◌, ◌++◌, length, Result, Ok, Err}
use Rattle.std.specs.List.{slice_get}
use Rattle.std.specs.Borrow.{GName}
use Rattle.beep_wires.specs.Counts.{next_count}
use Rattle.beep_wires.specs.Log.{Entry, Event}
use Rattle.beep_wires.specs.Links.{Link, Counts, Ask, accept, dial, Asked}
use Rattle.beep_wires.specs.Got.{gives_end}
use Rattle.beep_wires.specs.declared.links.Got.{Got}
use Rattle.beep_wires.specs.declared.links.WireError.{WireError}

-- a link that was given: whether it isn't shut, and what came of its calls
pub record Socket : Type 0 where
  pub is_open : Bool
  pub has_ended : Bool
  pub faults : ℕ
  pub reads : ℕ

-- the links that were given, by their numbers, and the counts that belong to none
pub record Sockets : Type 0 where
  pub links : List Socket
  pub accepts : ℕ
  pub dials : ℕ
  pub quiets : ℕ

-- before the first call
abbrev pub no_sockets : Sockets
no_sockets = record { links = []; accepts = 0; dials = 0; quiets = 0 }

-- ---- what links in general show of them

-- the log of a link isn't known
abbrev pub unknown : Option (List Entry)
unknown = None

abbrev pub unknown_story : Option (List Event)
unknown_story = None

abbrev pub unknown_asks : Option (List Asked)
unknown_asks = None

-- they pass on no call
abbrev pub no_lender : Option GName
no_lender = None

abbrev pub link_of : Option Socket → Link
link_of None =
    record { log = unknown; is_open = false; has_ended = false; faults = 0; reads = 0 }
link_of (Some s) = record {
  log = unknown;
  is_open = s.is_open;
  has_ended = s.has_ended;
  faults = s.faults;
  reads = s.reads;
}

abbrev pub link_at : Sockets → ℕ → Link
link_at w link = link_of (slice_get w.links link)

abbrev pub counts_of : Sockets → Counts
counts_of w =
    record { given = length w.links; accepts = w.accepts; dials = w.dials; quiets = w.quiets }

-- ---- what a call makes of one link

-- before its first read
abbrev pub socket_given : Socket
socket_given = record { is_open = true; has_ended = false; faults = 0; reads = 0 }

-- a call that failed is counted, and no other
abbrev pub faults_after : {A E : Type 0} → Result A E → ℕ → ℕ
faults_after (Ok value) count = count
faults_after (Err e) count = next_count count

abbrev pub socket_read : {E : Type 0} → Result Got E → Socket → Socket
socket_read result s = record s {
  has_ended = gives_end result;
  faults = faults_after result s.faults;
  reads = next_count s.reads;
}

abbrev pub socket_written : {E : Type 0} → Result ℕ E → Socket → Socket
socket_written result s = record s { faults = faults_after result s.faults }

abbrev pub socket_shut : Socket → Socket
socket_shut s = record s { is_open = false }

-- a list with one link changed
abbrev pub changed : (Socket → Socket) → List Socket → ℕ → List Socket
changed f [] link = []
changed f (s ∷ links) zero = f s ∷ links
changed f (s ∷ links) (suc link) = s ∷ changed f links link

-- ---- what a call makes of all

-- an accept or a dial that failed
abbrev pub refused : Ask → Sockets → Sockets
refused (accept bind port) w = record w { accepts = next_count w.accepts }
refused (dial host port) w = record w { dials = next_count w.dials }

-- an accept or a dial
abbrev pub sockets_asked : Ask → Result ℕ WireError → Sockets → Sockets
sockets_asked ask (Ok link) w = record w { links = w.links ++ socket_given ∷ [] }
sockets_asked ask (Err WireError.Failed) w = refused ask w
sockets_asked ask (Err WireError.NoMemory) w = w

-- a quiet read is counted, and no other
abbrev pub quiets_after : {E : Type 0} → Result Got E → ℕ → ℕ
quiets_after (Ok (Got.Bytes n)) count = count
quiets_after (Ok Got.Quiet) count = next_count count
quiets_after (Ok Got.End) count = count
quiets_after (Err e) count = count

abbrev pub sockets_read : {E : Type 0} → ℕ → Result Got E → Sockets → Sockets
sockets_read link result w = record w {
  links = changed (socket_read result) w.links link;
  quiets = quiets_after result w.quiets;
}

abbrev pub sockets_written : {E : Type 0} → ℕ → Result ℕ E → Sockets → Sockets
sockets_written link result w =
    record w { links = changed (socket_written result) w.links link }

abbrev pub sockets_shut : ℕ → Sockets → Sockets
sockets_shut link w = record w { links = changed socket_shut w.links link }
