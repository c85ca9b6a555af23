-- What a session is after each step of an end: ready for the next.
use Rattle.std.proofs.Common.{◌≡◌, ℕ, ◌||◌, ◌&&◌, not, Bool, true, false, List, [], is_some, refl, sym, ap, ap₂, ◌∙◌, subst}
use Rattle.std.proofs.Math.Logic.{∥∥₁_elim, ∥∥₁_map}
use Rattle.std.proofs.lemmas.Grind.{merely}
use denote.Struct.Props.{props}
use Rattle.beep_two_sessions.specs.beep_history.specs.Journal.{Item}
use Rattle.beep_two_sessions.specs.beep_hearing.specs.declared.ear.Ear.{Ear}
use Rattle.beep_two_sessions.specs.beep_hearing.specs.Hears.{Hears}
use Rattle.beep_two_sessions.specs.beep_standing.specs.Standing.{Marks, no_marks}
use Rattle.beep_two_sessions.specs.beep_peer.specs.declared.peer.Peer.{Peer}
use Rattle.beep_two_sessions.specs.beep_peer.specs.Peering.{IsPeer, IsGoing, is_over, zero_waits}
use Rattle.beep_two_sessions.specs.beep_peer.specs.Calls.{Begins}
use Rattle.beep_two_sessions.specs.beep_session.specs.declared.limits.Limits.{Limits}
use Rattle.beep_two_sessions.specs.beep_session.specs.Session.{Held}
use Rattle.beep_two_sessions.specs.beep_session.specs.Channels.{IsOfPeer, IsStill}
use Rattle.beep_pair.specs.Sessions.{IsReady}

abbrev pub SomePeer : ℕ → Peer → Type 0
SomePeer size peer =
    (fed : List ℕ) × (rest : List ℕ) × (journal : List Item) × (given : Marks) × (taken : Marks) × IsPeer size fed rest journal given taken peer

-- a peer that stands for something waits for nothing
pub quiet-peer : (size : ℕ) (fed rest : List ℕ) (journal : List Item) (given taken : Marks) (peer : Peer) → IsPeer size fed rest journal given taken peer → zero_waits peer ≡ false
quiet-peer size fed rest journal given taken peer s = none (not (is_over peer)) (is_some peer.ear.waits) (ap is_some s.hears.none)
  where
    none : (a b : Bool) → b ≡ false → (a && b) ≡ false
    none true b e = e
    none false b e = refl

pub going-quiet : (size : ℕ) (peer : Peer) → IsGoing size peer → zero_waits peer ≡ false
going-quiet size peer held = ∥∥₁_elim held (hlevel props) (λ s. quiet-peer size s.0 s.1 s.2 s.3 s.4 peer s.5)

-- what a step leaves that makes another peer of each
pub stepped : (old new : Held) → IsReady old → is_over old.peer ≡ false → IsOfPeer old new
    → ((fed rest : List ℕ) (journal : List Item) (given taken : Marks) → IsPeer old.limits.window fed rest journal given taken old.peer → SomePeer old.limits.window new.peer)
    → IsReady new
stepped old new ready over same step =
    let held : IsGoing old.limits.window new.peer = ∥∥₁_map {A = SomePeer old.limits.window old.peer} {B = SomePeer old.limits.window new.peer} (ready.going over) (λ s. step s.0 s.1 s.2 s.3 s.4 s.5) in
    record {
      settled = going-quiet old.limits.window new.peer held;
      going = λ over. subst (λ s. IsGoing s.limits.window new.peer) (sym same) held;
    }

-- what leaves a session as it was
pub unchanged : (old new : Held) → IsReady old → IsStill old new → IsReady new
unchanged old new ready still = record {
  settled = ap₂ waits_in still.peer.released still.peer.ear ∙ ready.settled;
  going = λ over. subst (λ s. IsGoing s.limits.window new.peer) (sym still.same) (∥∥₁_map {A = SomePeer old.limits.window old.peer} {B = SomePeer old.limits.window new.peer} (ready.going (sym (ap₂ over_in still.peer.released still.peer.ear) ∙ over)) (λ s. (
    s.0,
    s.1,
    s.2,
    s.3,
    s.4,
    record {
      hears = subst (λ e. Hears s.0 s.1 s.2 e) (sym still.peer.ear) s.5.hears;
      holds = still.peer.holds old.limits.window s.2 s.3 s.4 s.5.holds;
      released = still.peer.released ∙ s.5.released;
    },
  )));
}
  where
    waits_in : Bool → Ear → Bool
    waits_in released ear = not (released || is_some ear.broken) && is_some ear.waits

    over_in : Bool → Ear → Bool
    over_in released ear = released || is_some ear.broken

pub same_ready : (old new : Held) → IsReady old → new ≡ old → IsReady new
same_ready old new ready e = subst (λ s. IsReady s) (sym e) ready

pub same_role : (old new : Held) → IsOfPeer old new → new.role ≡ old.role
same_role old new e = ap (λ s. s.role) e

-- a session that begins
pub begun : (text : List ℕ) (session : Held) → Begins session.limits.window text session.peer → IsReady session
begun text session b =
    let held : IsGoing session.limits.window session.peer = merely ([], [], [], b.given, no_marks, b.stands) in
    record { settled = going-quiet session.limits.window session.peer held; going = λ o. held }

pub begun_with : (text : List ℕ) (limits : Limits) (session : Held) → Begins limits.window text session.peer → session.limits ≡ limits → IsReady session
begun_with text limits session b e = begun text session (subst (λ l. Begins l.window text session.peer) (sym e) b)
