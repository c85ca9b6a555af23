-- What a message of channel zero that waits leaves of a peer, once it is settled or stays.
use Rattle.std.proofs.Common.{◌≡◌, ℕ, ◌&&◌, ◌||◌, not, Bool, true, false, List, [], ◌∷◌, Option, None, Some, is_some, Result, Ok, Err, refl, sym, ap, ◌∙◌, subst}
use Rattle.std.specs.Prelude.{IsSome, OnOk, OnErr}
use Rattle.std.specs.Option.{option_map_or}
use Rattle.std.proofs.Math.Logic.{∥∥₁_elim, ∥∥₁_map}
use denote.Struct.Props.{props}
use Rattle.beep_giving.specs.beep_octets.specs.declared.octets.NoMemory.{NoMemory}
use Rattle.beep_giving.specs.beep_frame.specs.declared.head.Head.{Head}
use Rattle.beep_giving.specs.beep_history.specs.declared.journal.Side.{Side}
use Rattle.beep_giving.specs.beep_history.specs.Journal.{Item, passed}
use Rattle.beep_giving.specs.beep_lives.specs.Lives.{live_at}
use Rattle.beep_giving.specs.beep_hearing.specs.declared.stopped.Stopped.{Stopped}
use Rattle.beep_giving.specs.beep_standing.specs.Standing.{Marks}
use Rattle.beep_giving.specs.beep_peer.specs.declared.peer.Peer.{Peer}
use Rattle.beep_giving.specs.beep_answering.specs.declared.settled.Settled.{Settled}
use Rattle.beep_giving.specs.beep_peer.specs.Peering.{WaitsIn, IsWaiting, IsReached, zero_waits}
use Rattle.beep_giving.specs.beep_peer.specs.Calls.{Settles}
use Rattle.beep_session.proofs.ActLemmas.{SomePeer, SomeStanding}

-- a message waits in some journal
abbrev SomeWaits : ℕ → Head → Peer → Type 0
SomeWaits size head peer =
    (fed : List ℕ) × (journal : List Item) × (given : Marks) × (taken : Marks) × (payload : List ℕ) × WaitsIn size fed journal given taken head payload peer

-- a message waits whose header this is, and no rule was broken
not-over : (released : Bool) (stopped : Option Stopped) (w : Bool) → (not (released || is_some stopped) && w) ≡ true → stopped ≡ None
not-over true stopped w met = absurd (cc met)
not-over false (Some s) w met = absurd (cc met)
not-over false None w met = refl

pub is-going : (peer : Peer) → zero_waits peer ≡ true → peer.ear.broken ≡ None
is-going peer met = not-over peer.released peer.ear.broken (is_some peer.ear.waits) met

-- channel zero is there
pub zero-waits : (size : ℕ) (head : Head) (peer : Peer) → IsWaiting size head peer → IsSome (live_at 0 peer.lives)
zero-waits size head peer waiting = ∥∥₁_elim waiting (hlevel props) (λ s. sym (s.5.waits.live.there 0))

module _ (size : ℕ) (head : Head) (old new : Peer) (waiting : IsWaiting size head old) where
  -- it was settled
  pub reached-settled : ((fed : List ℕ) (journal : List Item) (given taken : Marks) (payload : List ℕ) → WaitsIn size fed journal given taken head payload old
      → Settles size fed journal given taken head payload new) → IsReached size new
  reached-settled all = record {
    going = λ b w. ∥∥₁_map {A = SomeWaits size head old} {B = SomePeer size new} waiting (λ s.
        let t = all s.0 s.1 s.2 s.3 s.4 s.5 in
        (s.0, [], passed Side.Received head s.4 ∷ s.1, t.given_now, t.taken_now, t.stands));
    waiting = λ other b w. ∥∥₁_elim waiting (hlevel props) (λ s. absurd (
        let e : None ≡ Some other = sym (all s.0 s.1 s.2 s.3 s.4 s.5).stands.hears.none ∙ w in cc));
    stands = ∥∥₁_map {A = SomeWaits size head old} {B = SomeStanding size new.lives} waiting (λ s.
        let t = all s.0 s.1 s.2 s.3 s.4 s.5 in
        (passed Side.Received head s.4 ∷ s.1, passed Side.Received head s.4 ∷ s.1, t.given_now, t.taken_now, t.stands.holds.live));
  }

  -- it waits still
  pub reached-waiting : ((fed : List ℕ) (journal : List Item) (given taken : Marks) (payload : List ℕ) → WaitsIn size fed journal given taken head payload old
      → WaitsIn size fed journal given taken head payload new) → IsReached size new
  reached-waiting all = record {
    going = λ b w. ∥∥₁_elim waiting (hlevel props) (λ s. absurd (
        let h : Some head ≡ None = sym (all s.0 s.1 s.2 s.3 s.4 s.5).waits.waiting ∙ w in cc));
    waiting = λ other b w. ∥∥₁_elim waiting (hlevel props) (λ s.
        let now = all s.0 s.1 s.2 s.3 s.4 s.5 in
        subst (λ (h : Head). IsWaiting size h new)
        (ap (λ (o : Option Head). option_map_or (λ (x : Head). x) o head) (sym now.waits.waiting ∙ w))
        (∥∥₁_map {A = SomeWaits size head old} {B = SomeWaits size head new} waiting (λ r.
        (r.0, r.1, r.2, r.3, r.4, all r.0 r.1 r.2 r.3 r.4 r.5))));
    stands = ∥∥₁_map {A = SomeWaits size head old} {B = SomeStanding size new.lives} waiting (λ s.
        (s.1, s.1, s.2, s.3, (all s.0 s.1 s.2 s.3 s.4 s.5).waits.live));
  }

  pub reached-asked : (result : Result Settled NoMemory)
      → ((fed : List ℕ) (journal : List Item) (given taken : Marks) (payload : List ℕ) → WaitsIn size fed journal given taken head payload old
      → OnOk result (Settles size fed journal given taken head payload new))
      → OnErr result ((fed : List ℕ) (journal : List Item) (given taken : Marks) (payload : List ℕ) → WaitsIn size fed journal given taken head payload old
      → WaitsIn size fed journal given taken head payload new) → IsReached size new
  reached-asked (Ok settled) all none = reached-settled all
  reached-asked (Err error) all none = reached-waiting none

-- ---- the header that waits is that of each journal

module _ (size : ℕ) (fed : List ℕ) (journal : List Item) (given taken : Marks) (other : Head) (payload : List ℕ) (peer : Peer)
    (w : WaitsIn size fed journal given taken other payload peer) (head : Head) (is : peer.ear.waits ≡ Some head) where
  pub same-head : head ≡ other
  same-head = ap (λ (o : Option Head). option_map_or (λ (x : Head). x) o head) (sym is ∙ w.waits.waiting)

  -- so what holds for the one holds for the other
  pub for-head : (P : Head → Type 0) → (WaitsIn size fed journal given taken head payload peer → P head) → P other
  for-head P holds = subst (λ (h : Head). WaitsIn size fed journal given taken h payload peer → P h) same-head holds w
