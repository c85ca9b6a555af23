-- What a request on channel zero leaves of a peer, for every journal for which it stood.
use Rattle.std.proofs.Common.{◌≡◌, ℕ, ◌<◌, ◌==◌, ◌||◌, ◌&&◌, not, Bool, true, false, List, ◌++◌, Option, None, Some, is_some, Result, Ok, Err, refl, sym, ◌∙◌, subst, arith}
use Rattle.std.specs.Prelude.{OnOk, OnErr}
use Rattle.std.proofs.lemmas.Bool.Decides.{nat_tests}
use Rattle.std.proofs.Math.Logic.{∥∥₁_elim, ∥∥₁_map}
use denote.Struct.Props.{props}
use Rattle.beep_giving.specs.beep_frame.specs.declared.head.Head.{Head}
use Rattle.beep_giving.specs.beep_octets.specs.declared.octets.NoMemory.{NoMemory}
use Rattle.beep_giving.specs.beep_history.specs.Journal.{Item}
use Rattle.beep_giving.specs.beep_hearing.specs.declared.stopped.Stopped.{Stopped}
use Rattle.beep_giving.specs.beep_outbox.specs.Queue.{message_marks}
use Rattle.beep_giving.specs.beep_lives.specs.Lives.{live_at}
use Rattle.beep_giving.specs.beep_channel.specs.Held.{Live}
use Rattle.beep_giving.specs.beep_standing.specs.Standing.{Marks, with_marks, AreLive}
use Rattle.beep_giving.specs.beep_peer.specs.declared.peer.Peer.{Peer}
use Rattle.beep_giving.specs.beep_peer.specs.Peering.{Holds, IsPeer, IsGoing, IsReached, AreHeld, is_over, zero_waits}
use Rattle.beep_giving.specs.beep_peer.specs.Acts.{GivesZero, IsUnchanged, close_refusal}
use Rattle.beep_giving.specs.beep_peer.specs.Asking.{MayCloseWhere}
use Rattle.beep_giving.specs.beep_peer.proofs.MayLemmas.{may-close}
use Rattle.beep_giving.specs.beep_peer.proofs.UnchangedLemmas.{unchanged-upright}
use Rattle.beep_session.specs.Session.{Held}
use Rattle.beep_session.specs.Lawfully.{terms_of, KeepsUpright}
use Rattle.beep_session.specs.Acts.{AsksZero}

-- some journal for which a peer stands
abbrev pub SomePeer : ℕ → Peer → Type 0
SomePeer size peer =
    (fed : List ℕ) × (rest : List ℕ) × (journal : List Item) × (given : Marks) × (taken : Marks) × IsPeer size fed rest journal given taken peer

-- some journal for which channels stand, by the lives of an earlier part
abbrev pub SomeStanding : ℕ → List Live → Type 0
SomeStanding size channels =
    (lives : List Item) × (journal : List Item) × (given : Marks) × (taken : Marks) × AreLive size lives journal given taken channels

-- ---- a session that goes on

none-broken : (released : Bool) (stopped : Option Stopped) → (released || is_some stopped) ≡ false → stopped ≡ None
none-broken true stopped going = absurd (cc going)
none-broken false (Some s) going = absurd (cc going)
none-broken false None going = refl

none-waits : (over : Bool) (w : Option Head) → over ≡ false → (not over && is_some w) ≡ false → w ≡ None
none-waits true w going settled = absurd (cc going)
none-waits false (Some head) going settled = absurd (cc settled)
none-waits false None going settled = refl

pub going-now : (size : ℕ) (peer : Peer) → IsReached size peer → is_over peer ≡ false → zero_waits peer ≡ false → IsGoing size peer
going-now size peer reached going settled =
    reached.going (none-broken peer.released peer.ear.broken going) (none-waits (is_over peer) peer.ear.waits going settled)

pub held-now : (size : ℕ) (peer : Peer) → IsGoing size peer → AreHeld peer.lives peer.management
held-now size peer held =
    ∥∥₁_map {A = SomePeer size peer}
    {B = (size : ℕ) × (journal : List Item) × (given : Marks) × (taken : Marks) × Holds size journal given taken peer.lives peer.management}
    held (λ s. (size, s.2, s.3, s.4, s.5.holds))

-- what is over, and what waits, is known by what was heard and by the release
pub same-over : (old new : Peer) → new.ear ≡ old.ear → new.released ≡ old.released → is_over new ≡ is_over old
same-over old new ear released = rw (ear, released) refl

pub same-waits : (old new : Peer) → new.ear ≡ old.ear → new.released ≡ old.released → zero_waits new ≡ zero_waits old
same-waits old new ear released = rw (ear, released) refl

-- ---- after a request

module _ (size : ℕ) (old new : Peer) (ear : new.ear ≡ old.ear) (released : new.released ≡ old.released) where
  -- it was given
  pub asks-zero : (octets fed rest : List ℕ) (journal : List Item) (given taken : Marks) → IsPeer size fed rest journal given taken old
      → GivesZero size journal given taken octets new → AsksZero size fed rest journal given taken octets new
  asks-zero octets fed rest journal given taken s g = record {
    ask = g.ask;
    is_msg = g.is_msg;
    is_text = g.is_text;
    stands = record { hears = rw ear s.hears; holds = g.holds; released = released ∙ s.released };
  }

  pub asks-ok : (octets fed rest : List ℕ) (journal : List Item) (given taken : Marks) (result : Result (Unit {0}) NoMemory)
      → IsPeer size fed rest journal given taken old → OnOk result (GivesZero size journal given taken octets new)
      → OnOk result (AsksZero size fed rest journal given taken octets new)
  asks-ok octets fed rest journal given taken (Ok value) s g = asks-zero octets fed rest journal given taken s g
  asks-ok octets fed rest journal given taken (Err error) s g = tt

-- nothing is changed but room
pub still-peer : (size : ℕ) (old new : Peer) (fed rest : List ℕ) (journal : List Item) (given taken : Marks) → IsUnchanged old new
    → IsPeer size fed rest journal given taken old → IsPeer size fed rest journal given taken new
still-peer size old new fed rest journal given taken u s =
    record { hears = rw u.ear s.hears; holds = u.holds size journal given taken s.holds; released = u.released ∙ s.released }

-- so what the session has to say may go as before
pub still-upright : (old new : Held) → IsUnchanged old.peer new.peer → KeepsUpright old new
still-upright old new same fed rest journal given taken s u = unchanged-upright (terms_of old) journal old.peer new.peer same u

-- a peer that went on goes on after it
pub going-reached : (size : ℕ) (new : Peer) → IsGoing size new → IsReached size new
going-reached size new held = record {
  going = λ b w. held;
  waiting = λ head b w. ∥∥₁_elim held (hlevel props) (λ s. absurd (let e : None ≡ Some head = sym s.5.hears.none ∙ w in cc));
  stands = ∥∥₁_map {A = SomePeer size new} {B = SomeStanding size new.lives} held (λ s. (s.2, s.2, s.3, s.4, s.5.holds.live));
}

pub reached-given : (size : ℕ) (octets : List ℕ) (old new : Peer) → IsGoing size old
    → (result : Result (Unit {0}) NoMemory)
    → ((fed rest : List ℕ) (journal : List Item) (given taken : Marks) → IsPeer size fed rest journal given taken old
    → OnOk result (AsksZero size fed rest journal given taken octets new))
    → OnErr result (IsUnchanged old new) → IsReached size new
reached-given size octets old new held (Ok value) ok err = going-reached size new
    (∥∥₁_map {A = SomePeer size old} {B = SomePeer size new} held (λ s.
    let a = ok s.0 s.1 s.2 s.3 s.4 s.5 in
    (s.0, s.1, s.2, with_marks 0 (s.3 0 ++ message_marks a.ask) s.3, s.4, a.stands)))
reached-given size octets old new held (Err error) ok err = going-reached size new
    (∥∥₁_map {A = SomePeer size old} {B = SomePeer size new} held (λ s.
    (s.0, s.1, s.2, s.3, s.4, still-peer size old new s.0 s.1 s.2 s.3 s.4 err s.5)))

-- ---- channels that are open

-- no life begins or ends
pub still-there : (size : ℕ) (octets : List ℕ) (old new : Peer) (n : ℕ) (result : Result (Unit {0}) NoMemory) → IsGoing size old
    → ((journal : List Item) (given taken : Marks) → Holds size journal given taken old.lives old.management
    → OnOk result (GivesZero size journal given taken octets new))
    → OnErr result (IsUnchanged old new) → is_some (live_at n new.lives) ≡ is_some (live_at n old.lives)
still-there size octets old new n (Ok value) held ok err = ∥∥₁_elim held (hlevel props) (λ s.
    sym ((ok s.2 s.3 s.4 s.5.holds).holds.live.there n) ∙ s.5.holds.live.there n)
still-there size octets old new n (Err error) held ok err = ∥∥₁_elim held (hlevel props) (λ s.
    sym ((err.holds size s.2 s.3 s.4 s.5.holds).live.there n) ∙ s.5.holds.live.there n)

-- a close above zero that isn't refused may be asked
above-zero : (n : ℕ) → 0 < n → (n == 0) ≡ false
above-zero n above = grind (arith, nat_tests)

pub close-may : (peer : Peer) (n : ℕ) → 0 < n → close_refusal peer n ≡ None → is_some (live_at n peer.lives) ≡ true
    → MayCloseWhere (n == 0) peer n (not (n == 0))
close-may peer n above none live =
    subst (λ (b : Bool). MayCloseWhere b peer n (not b)) (sym (above-zero n above)) (may-close peer n none live)
