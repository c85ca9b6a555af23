-- What a recorder holds while no entry was lost: the log of one link since it was given.
-- The code compares no logs; it adds an entry after each call of the link.
use Rattle.std.specs.Prelude.{◌≡◌, ◌==◌, ◌&&◌, nat_lt, ℕ, ◌<◌, ◌≤◌, Bool, false, not, if◌then◌else◌, Option, Some, None, List, [], Result, Ok, Err}
use Rattle.beep_journal.specs.declared.role.Role.{Role}
use Rattle.beep_journal.specs.Log.{Entry}
use Rattle.beep_wires.specs.Log.{Entry as LinkEntry}
use Rattle.beep_wires.specs.Links.{Link}
use Rattle.beep_wires.specs.declared.links.WireError.{WireError}
use Rattle.beep_record.specs.Record.{has_ended}
use Rattle.beep_record.specs.Written.{Writes}
use Rattle.beep_recorder.specs.Said.{log_said}

-- nothing is kept before a link was given
abbrev pub IsUnread : Bool → Option ℕ → List Entry → Type 0
IsUnread short link log = short ≡ false → link ≡ None → log ≡ []

-- the link was given
abbrev pub IsGiven : Bool → ℕ → Option ℕ → Type 0
IsGiven short given link = (n : ℕ) → short ≡ false → link ≡ Some n → n < given

-- what is kept has ended exactly where the link has
abbrev pub EndsWith : Bool → (ℕ → Link) → Option ℕ → List Entry → Type 0
EndsWith short state link log =
    (n : ℕ) → short ≡ false → link ≡ Some n → has_ended log ≡ (state n).has_ended

-- what is kept is the link's own log, where that is known
abbrev pub IsLogOf : Bool → (ℕ → Link) → Option ℕ → List Entry → Type 0
IsLogOf short state link log =
    (n : ℕ) (entries : List LinkEntry) → short ≡ false → link ≡ Some n
    → (state n).log ≡ Some entries → log ≡ log_said entries

-- the octets gained are the record of the link's log, where that is known
abbrev pub Records : (ℕ → Link) → Option ℕ → Role → List ℕ → List ℕ → Type 0
Records state link role old new =
    (n : ℕ) (entries : List LinkEntry) → link ≡ Some n → (state n).log ≡ Some entries
    → Writes role (log_said entries) old new

-- the octets gained are a record at this end of a link: of some log, and of the link's own where
-- that is known
pub record RecordsLink (link : Link) (role : Role) (old new : List ℕ) : Type 0 where
  pub log : List Entry
  pub logged : (entries : List LinkEntry) → link.log ≡ Some entries → log ≡ log_said entries
  pub writes : Writes role log old new

-- ---- which link is recorded

-- what is recorded: the link of this number, once it is given, at this end
pub record Recording : Type 0 where
  pub first : ℕ
  pub role : Role

-- the link of this number, where it was given by now
abbrev pub given_by : ℕ → ℕ → Option ℕ
given_by first given = if nat_lt first given then Some first else None

-- where it is known what is recorded, that is it
abbrev pub IsKnown : Option Recording → Bool → Option ℕ → ℕ → Role → Type 0
IsKnown known short link given role = (recording : Recording) → known ≡ Some recording
    → (role ≡ recording.role) × (recording.first ≤ given)
    × (short ≡ false → link ≡ given_by recording.first given)

-- where it is known what is recorded, and its link was given, the octets gained are its record
abbrev pub RecordsKnown : Option Recording → (ℕ → Link) → ℕ → List ℕ → List ℕ → Type 0
RecordsKnown known state given old new = (recording : Recording) → known ≡ Some recording
    → recording.first < given → RecordsLink (state recording.first) recording.role old new

-- calls of this link are kept
abbrev pub is_recorded : Bool → Option ℕ → ℕ → Bool
is_recorded short None other = false
is_recorded short (Some link) other = not short && (link == other)

-- the first link that was given
abbrev pub first_given : Option ℕ → Result ℕ WireError → Option ℕ
first_given None (Ok link) = Some link
first_given None (Err e) = None
first_given (Some first) answer = Some first
