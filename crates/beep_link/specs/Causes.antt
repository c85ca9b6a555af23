-- What ends a session over a link, as the link's log and the counts of faults show it.
-- The code counts as it reads; here the log is gone over, whole.
use Rattle.std.specs.Prelude.{◌≡◌, ◌≢◌, ◌⊎◌, ℕ, ◌+◌, ◌-◌, ◌*◌, ◌≤◌, ◌<◌, Bool, true, false, Option, Some, None, List, [], ◌∷◌, length}
use Rattle.std.specs.Borrow.{GName}
use Rattle.std.specs.Io.KnownBytes.{Appends}
use Rattle.beep_wires.specs.Log.{Entry, read, wrote, quiet, ended, Logs}
use Rattle.beep_wires.specs.Writing.{AreWrites}
use Rattle.beep_wires.specs.Links.{Link, Counts, Asked, SameBeside}
use Rattle.beep_wires.specs.declared.links.Got.{Got}
use Rattle.beep_wires.specs.declared.count.TheConstants.{COUNT_MAX}
use Rattle.beep_wires.specs.Counts.{Rose}
use Rattle.beep_link.specs.declared.ended.Stop.{Stop}
use Rattle.beep_link.specs.declared.ended.Ended.{Ended}
use Rattle.beep_link.specs.declared.left.Reads.{Reads}
use Rattle.beep_link.specs.declared.left.Left.{Left}
use Rattle.beep_link.specs.declared.buffers.TheConstants.{BUFFER}

-- what ends where an end is stopped by this
abbrev pub ended_by : Stop → Ended
ended_by Stop.Released = Ended.Released
ended_by (Stop.Broken rule place) = Ended.Broken rule place
ended_by Stop.WriteFault = Ended.WriteFault
ended_by Stop.NoMemory = Ended.NoMemory
ended_by (Stop.Refused code) = Ended.Refused code

-- ---- what a log shows, the latest entry first

-- how many octets were read
abbrev pub octets_read : List Entry → ℕ
octets_read [] = 0
octets_read (read octets ∷ log) = length octets + octets_read log
octets_read (wrote octets ∷ log) = octets_read log
octets_read (quiet ∷ log) = octets_read log
octets_read (ended ∷ log) = octets_read log

-- how many of the latest reads, one after another, were quiet
abbrev pub quiet_reads : List Entry → ℕ
quiet_reads [] = 0
quiet_reads (read octets ∷ log) = 0
quiet_reads (wrote octets ∷ log) = quiet_reads log
quiet_reads (quiet ∷ log) = quiet_reads log + 1
quiet_reads (ended ∷ log) = 0

-- a log that is known shows so many octets read
abbrev pub HasRead : ℕ → Option (List Entry) → Type 0
HasRead count None = Unit {0}
HasRead count (Some log) = octets_read log ≡ count

-- the latest reads, so many or more, of a log that is known were quiet
abbrev pub IsQuiet : ℕ → Option (List Entry) → Type 0
IsQuiet count None = Unit {0}
IsQuiet count (Some log) = count ≤ quiet_reads log

-- the link was given and isn't shut, it hasn't ended, none of its calls has failed, and its log is
-- empty where it is known
pub record IsUnused (link : Link) : Type 0 where
  pub unread : link.log ≡ None ⊎ link.log ≡ Some []
  pub is_open : link.is_open ≡ true
  pub going : link.has_ended ≡ false
  pub no_faults : link.faults ≡ 0

-- ---- causes

-- a count rose by so many at least, or stands at its greatest value
abbrev pub RoseBy : ℕ → ℕ → ℕ → Type 0
RoseBy count old new = (old + count ≤ new) ⊎ (COUNT_MAX ≤ new)

-- a link was read often enough for so many octets, of which one read gives `BUFFER` at most, or the
-- count of its reads stands at its greatest value
abbrev pub ReadsGive : ℕ → ℕ → ℕ → Type 0
ReadsGive octets old new = (octets + BUFFER * old ≤ BUFFER * new) ⊎ (COUNT_MAX ≤ new)

-- a link and the count of quiet reads
pub record Look : Type 0 where
  pub link : Link
  pub quiets : ℕ

-- the end of the link is what ended the session
abbrev pub is_cut : Ended → Bool
is_cut Ended.Released = false
is_cut (Ended.Broken rule place) = false
is_cut Ended.WriteFault = false
is_cut Ended.WireFault = false
is_cut Ended.NoMemory = false
is_cut (Ended.Refused code) = false
is_cut (Ended.Cut left) = true
is_cut (Ended.Idle count) = false
is_cut (Ended.Spent count) = false

-- what else each end that has its cause in the link shows there, by the link before and after; a
-- call that failed was the only one, and nothing was called after it
abbrev pub LinkShows : Ended → Reads → Look → Look → Type 0
LinkShows Ended.Released reads old new = Unit {0}
LinkShows (Ended.Broken rule place) reads old new = Unit {0}
LinkShows Ended.WriteFault reads old new = Unit {0}
LinkShows Ended.WireFault reads old new = new.link.faults ≡ 1
LinkShows Ended.NoMemory reads old new = Unit {0}
LinkShows (Ended.Refused code) reads old new = Unit {0}
LinkShows (Ended.Cut left) reads old new = Unit {0}
LinkShows (Ended.Idle count) reads old new = (count ≡ reads.idle) × IsQuiet reads.idle new.link.log
    × RoseBy reads.idle old.quiets new.quiets
    × RoseBy reads.idle old.link.reads new.link.reads
LinkShows (Ended.Spent count) reads old new = (count ≡ reads.octets)
    × HasRead reads.octets new.link.log × ReadsGive reads.octets old.link.reads new.link.reads

-- what ended a session over a link, by the link before and after: the link gave its end where that
-- cut the session, and only there; a call failed only where that ended the session; and what else
-- the cause shows
pub record IsCaused (cause : Ended) (reads : Reads) (old new : Look) : Type 0 where
  pub cut : new.link.has_ended ≡ is_cut cause
  pub unfailed : cause ≢ Ended.WireFault → new.link.faults ≡ old.link.faults
  pub because : LinkShows cause reads old new

-- a fault of the link, or out of memory: the turns end so at any place
abbrev pub IsOfFaults : Ended → Type 0
IsOfFaults Ended.Released = ⊥
IsOfFaults (Ended.Broken rule place) = ⊥
IsOfFaults Ended.WriteFault = ⊥
IsOfFaults Ended.WireFault = Unit {0}
IsOfFaults Ended.NoMemory = Unit {0}
IsOfFaults (Ended.Refused code) = ⊥
IsOfFaults (Ended.Cut left) = ⊥
IsOfFaults (Ended.Idle count) = ⊥
IsOfFaults (Ended.Spent count) = ⊥

-- the settings allow no more reads: the turns end so where the session isn't over
abbrev pub IsOfReads : Ended → Type 0
IsOfReads Ended.Released = ⊥
IsOfReads (Ended.Broken rule place) = ⊥
IsOfReads Ended.WriteFault = ⊥
IsOfReads Ended.WireFault = ⊥
IsOfReads Ended.NoMemory = ⊥
IsOfReads (Ended.Refused code) = ⊥
IsOfReads (Ended.Cut left) = ⊥
IsOfReads (Ended.Idle count) = Unit {0}
IsOfReads (Ended.Spent count) = Unit {0}

-- the sink's count rose where a write of the output failed
abbrev pub IsWritten : Ended → ℕ → ℕ → Type 0
IsWritten cause old new = cause ≡ Ended.WriteFault → Rose old new

-- ---- what an end stands for

-- of a log that is known this holds
abbrev pub WhereKnown : (List Entry → Type 0) → Option (List Entry) → Type 0
WhereKnown P None = Unit {0}
WhereKnown P (Some log) = P log

-- wherever the log shows a read, a quiet one or the end of the link among them, this holds of the
-- log before it
abbrev pub ReadsWhere : (List Entry → Type 0) → List Entry → Type 0
ReadsWhere P [] = Unit {0}
ReadsWhere P (read octets ∷ log) = P log × ReadsWhere P log
ReadsWhere P (wrote octets ∷ log) = ReadsWhere P log
ReadsWhere P (quiet ∷ log) = P log × ReadsWhere P log
ReadsWhere P (ended ∷ log) = P log × ReadsWhere P log

-- the log of a link grew by writes alone, where it is known
abbrev pub GrewByWrites : Option (List Entry) → Option (List Entry) → Type 0
GrewByWrites old new = (more : List Entry) × (octets : List ℕ) × Logs old new more
    × AreWrites more octets

-- an output only grew: it holds what it held before, and then some octets
abbrev pub Grows : Option (List ℕ) → Option (List ℕ) → Type 0
Grows before now = (text : List ℕ) × Appends before now text

-- from what an output held before to what it holds now it grew by some octets, of which this holds;
-- an output that doesn't tell what it holds may have grown by any
abbrev pub WithText : Option (List ℕ) → Option (List ℕ) → (List ℕ → Type 0) → Type 0
WithText before now P = (text : List ℕ) × Appends before now text × P text

-- ---- what may still be read

-- nothing more is read, and this is why
abbrev pub IsSpent : Ended → Reads → Left → Type 0
IsSpent Ended.Released reads left = ⊥
IsSpent (Ended.Broken rule place) reads left = ⊥
IsSpent Ended.WriteFault reads left = ⊥
IsSpent Ended.WireFault reads left = ⊥
IsSpent Ended.NoMemory reads left = ⊥
IsSpent (Ended.Refused code) reads left = ⊥
IsSpent (Ended.Cut octets) reads left = ⊥
IsSpent (Ended.Idle count) reads left = (count ≡ reads.idle) × (reads.idle ≤ left.quiets)
IsSpent (Ended.Spent count) reads left = (count ≡ reads.octets) × (left.octets ≡ 0)

-- how many reads there may still be: as many for each octet as may be quiet, one after another,
-- since one that gives octets comes after fewer quiet ones
abbrev pub reads_left : Reads → Left → ℕ
reads_left reads left = left.octets * reads.idle - left.quiets

-- a log that is known shows what may still be read
abbrev pub TellsLeft : Reads → Left → Option (List Entry) → Type 0
TellsLeft reads left None = Unit {0}
TellsLeft reads left (Some log) =
    (octets_read log + left.octets ≡ reads.octets) × (quiet_reads log ≡ left.quiets)

-- a log shows that once more may be read: fewer octets were read than may be, and of the latest
-- reads fewer were quiet, one after another
pub record MayRead (reads : Reads) (log : List Entry) : Type 0 where
  pub octets : octets_read log < reads.octets
  pub quiets : quiet_reads log < reads.idle

-- no more octets were read than may be, and wherever a log shows a read, a quiet one or the end of
-- the link among them, once more might be read there
pub record IsWithin (reads : Reads) (log : List Entry) : Type 0 where
  pub octets : octets_read log ≤ reads.octets
  pub each : ReadsWhere (MayRead reads) log

-- so it is of a log that is known
abbrev pub IsBounded : Reads → Option (List Entry) → Type 0
IsBounded reads log = WhereKnown (IsWithin reads) log

-- since there were so many quiet reads the count rose by each of the latest ones
pub record CountsQuiet (before : ℕ) (left : Left) (quiets : ℕ) : Type 0 where
  pub kept : before ≤ quiets
  pub rose : RoseBy left.quiets before quiets

-- since a link had been read so often it was read often enough for the octets that came, and for
-- the latest reads that were quiet
pub record CountsReads (reads : Reads) (before : ℕ) (left : Left) (count : ℕ) : Type 0 where
  pub octets : (reads.octets + BUFFER * before ≤ left.octets + BUFFER * count) ⊎ (COUNT_MAX ≤ count)
  pub quiets : RoseBy left.quiets before count

-- the octets that came are as many as one read gives, or fewer
abbrev pub fits_buffer : Got → Type 0
fits_buffer (Got.Bytes n) = n ≤ BUFFER
fits_buffer Got.Quiet = Unit {0}
fits_buffer Got.End = Unit {0}

-- what a read makes of it, unless it gave the end
abbrev pub Moves : Got → Reads → Left → Left → Option (List Entry) → Option (List Entry) → Type 0
Moves (Got.Bytes n) reads old new before after = (reads_left reads new < reads_left reads old)
    × (TellsLeft reads old before → TellsLeft reads new after)
Moves Got.Quiet reads old new before after = (reads_left reads new < reads_left reads old)
    × (TellsLeft reads old before → TellsLeft reads new after)
Moves Got.End reads old new before after = Unit {0}

-- ---- what stays

-- what is known of links
pub record Seen : Type 0 where
  pub state : ℕ → Link
  pub counts : Counts
  pub asked : Option (List Asked)
  pub lent : Option GName

-- one link was read and written, and stays open
pub record Keeps (link : ℕ) (old new : Seen) : Type 0 where
  pub still_open : (new.state link).is_open ≡ true
  pub kept : (old.state link).faults ≤ (new.state link).faults
  pub others : SameBeside link old.state new.state
  pub given : new.counts.given ≡ old.counts.given
  pub accepts : new.counts.accepts ≡ old.counts.accepts
  pub dials : new.counts.dials ≡ old.counts.dials
  pub quiets : old.counts.quiets ≤ new.counts.quiets
  pub same_asked : new.asked ≡ old.asked
  pub same_lent : new.lent ≡ old.lent

-- a log that is known shows the same reads
abbrev pub SameLogReads : Option (List Entry) → Option (List Entry) → Type 0
SameLogReads None None = Unit {0}
SameLogReads None (Some new) = ⊥
SameLogReads (Some old) None = ⊥
SameLogReads (Some old) (Some new) =
    (octets_read new ≡ octets_read old) × (quiet_reads new ≡ quiet_reads old)

-- nothing was read, and the link hasn't ended where it hadn't
pub record SameReads (old new : Link) : Type 0 where
  pub logs : SameLogReads old.log new.log
  pub end : new.has_ended ≡ old.has_ended
  pub counted : new.reads ≡ old.reads
