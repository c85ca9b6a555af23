-- What whole messages of channel zero leave of the lives that are kept (RFC 3080, sections
-- 2.3.1.2 and 2.3.1.3).
-- What they mean is said by moments, in beep_journal.
use Rattle.std.specs.Prelude.{◌≡◌, ℕ, ◌==◌, nat_lt, Bool, true, false, not, ◌&&◌, Option, None, Some, is_some}
use Rattle.std.specs.Option.{option_map_or}
use Rattle.beep_mgmt.specs.Form.{Form, greeting, start, chosen, close, okay, fault}
use Rattle.beep_judge.specs.declared.channels.Channels.{Channels}
use Rattle.beep_judge.specs.Kept.{life_at, is_current}
use Rattle.beep_judge.specs.Edits.{SameChannels, Starts, Ends}

-- the stamp of the live life of a number, 0 where none is
abbrev pub stamp_at : ℕ → Channels → ℕ
stamp_at number channels = option_map_or (λ life. life.stamp) (life_at number channels) 0

-- what a request that says this keeps of lives: a close the stamp of the life that it names
abbrev pub stamp_of : Option Form → Channels → ℕ
stamp_of None channels = 0
stamp_of (Some (greeting features localize profiles)) channels = 0
stamp_of (Some (start number server profiles)) channels = 0
stamp_of (Some (chosen profile)) channels = 0
stamp_of (Some (close number code note)) channels = stamp_at number channels
stamp_of (Some okay) channels = 0
stamp_of (Some (fault code note)) channels = 0

-- the lives stay, and the session is released
pub record Releases (old new : Channels) : Type 0 where
  pub at : (number : ℕ) → life_at number new ≡ life_at number old
  pub stamps : new.stamps ≡ old.stamps
  pub released : new.released ≡ true

-- a life of a number begins where the test holds
abbrev pub StartsWhere : Bool → ℕ → Channels → Channels → Type 0
StartsWhere true number old new = Starts number old new
StartsWhere false number old new = SameChannels old new

-- the life of a number ends where the test holds
abbrev pub EndsWhere : Bool → ℕ → Channels → Channels → Type 0
EndsWhere true number old new = Ends number old new
EndsWhere false number old new = SameChannels old new

-- a close is granted: of 0 it releases, of a number it ends the life that it names
abbrev pub Closes : Bool → ℕ → ℕ → Channels → Channels → Type 0
Closes true number stamp old new = Releases old new
Closes false number stamp old new = EndsWhere (is_current number stamp old) number old new

-- a request that says this, and keeps this stamp, is granted
abbrev pub Granted : Option Form → ℕ → Channels → Channels → Type 0
Granted None stamp old new = SameChannels old new
Granted (Some (greeting features localize profiles)) stamp old new = SameChannels old new
Granted (Some (start number server profiles)) stamp old new =
    StartsWhere (nat_lt 0 number && not (is_some (life_at number old))) number old new
Granted (Some (chosen profile)) stamp old new = SameChannels old new
Granted (Some (close number code note)) stamp old new = Closes (number == 0) number stamp old new
Granted (Some okay) stamp old new = SameChannels old new
Granted (Some (fault code note)) stamp old new = SameChannels old new

-- the same, where the test holds
abbrev pub GrantedWhere : Bool → Option Form → ℕ → Channels → Channels → Type 0
GrantedWhere true form stamp old new = Granted form stamp old new
GrantedWhere false form stamp old new = SameChannels old new
