-- What a program may ask on channel zero, so that what is asked may lawfully go out (RFC 3080,
-- sections 2.3.1.2 and 2.3.1.3).
use Rattle.std.specs.Prelude.{◌≡◌, ℕ, ◌==◌, Bool, true, false, [], length, Option, None, Some, is_some}
use Rattle.std.specs.List.{list_any}
use Rattle.beep_upright.specs.beep_mgmt.specs.Form.{Form, greeting, start, chosen, close, okay, fault}
use Rattle.beep_upright.specs.beep_journal.specs.declared.role.Role.{Role}
use Rattle.beep_upright.specs.beep_lives.specs.Lives.{live_at}
use Rattle.beep_upright.specs.beep_decide.specs.Numbers.{may_start}
use Rattle.beep_upright.specs.beep_management.specs.Managed.{numbers_of}
use Rattle.beep_peer.specs.declared.peer.Peer.{Peer}
use Rattle.beep_peer.specs.Standing.{leaves}
use Rattle.beep_peer.specs.Acts.{asked_of}

-- a start: the number is this end's, neither live nor starting, and no own close of 0 waits
pub record MayStart (role : Role) (peer : Peer) (number : ℕ) (names : Bool) : Type 0 where
  pub unnamed : names ≡ false
  pub may : may_start role number ≡ true
  pub dead : is_some (live_at number peer.lives) ≡ false
  pub unused : list_any (λ other. other == number) (numbers_of peer.management.starting) ≡ false
  pub staying : leaves peer.management ≡ false

-- a close above 0: it names the live life, in which nothing is asked
pub record MayClose (peer : Peer) (number : ℕ) (names : Bool) : Type 0 where
  pub named : names ≡ true
  pub live : is_some (live_at number peer.lives) ≡ true
  pub none : asked_of (live_at number peer.lives) ≡ 0

-- a close of 0: nothing else is asked, and no channel above 0 is live or starting
pub record MayRelease (peer : Peer) (names : Bool) : Type 0 where
  pub unnamed : names ≡ false
  pub mine : length peer.management.mine.requests ≡ 0
  pub acts : length peer.management.acts.requests ≡ 0
  pub starting : peer.management.starting ≡ []
  pub granted : peer.management.granted ≡ []
  pub none : (number : ℕ) → (number == 0) ≡ false → is_some (live_at number peer.lives) ≡ false

abbrev pub MayCloseWhere : Bool → Peer → ℕ → Bool → Type 0
MayCloseWhere true peer number names = MayRelease peer names
MayCloseWhere false peer number names = MayClose peer number names

-- a request that says this may be given, and names a live life or not
abbrev pub MayAsk : Role → Peer → Bool → Option Form → Type 0
MayAsk role peer names None = ⊥
MayAsk role peer names (Some (greeting features localize profiles)) = ⊥
MayAsk role peer names (Some (start number server profiles)) = MayStart role peer number names
MayAsk role peer names (Some (chosen profile)) = ⊥
MayAsk role peer names (Some (close number code note)) =
    MayCloseWhere (number == 0) peer number names
MayAsk role peer names (Some okay) = ⊥
MayAsk role peer names (Some (fault code note)) = ⊥
