-- What goes out leaves of a peer.
use Rattle.std.proofs.Common.{ℕ, List, ◌∷◌, sym, subst}
use Rattle.std.proofs.Math.Logic.{∥∥₁_map}
use Rattle.beep_giving.specs.beep_history.specs.declared.journal.Side.{Side}
use Rattle.beep_giving.specs.beep_history.specs.Journal.{Item, began, passed, told}
use Rattle.beep_giving.specs.beep_standing.specs.Standing.{Marks}
use Rattle.beep_giving.specs.beep_speaking.specs.declared.emit.Emit.{Emit}
use Rattle.beep_giving.specs.beep_peer.specs.declared.peer.Peer.{Peer}
use Rattle.beep_giving.specs.beep_peer.specs.Peering.{IsPeer, IsGoing, IsReached}
use Rattle.beep_giving.specs.beep_peer.specs.Calls.{Speaks}
use Rattle.beep_session.proofs.ActLemmas.{SomePeer, going-reached}

-- what a frame or a SEQ leaves stands for the journal with it
pub spoken-reached : (size most : ℕ) (old new : Peer) (emit : Emit) (before after : List ℕ) → IsGoing size old
    → ((fed rest : List ℕ) (journal : List Item) (given taken : Marks) → IsPeer size fed rest journal given taken old
    → Speaks emit size most fed rest journal given taken old new before after) → IsReached size new
spoken-reached size most old new (Emit.Seq seq) before after held all = going-reached size new
    (∥∥₁_map {A = SomePeer size old} {B = SomePeer size new} held (λ s.
    let e = all s.0 s.1 s.2 s.3 s.4 s.5 in (s.0, s.1, told Side.Sent seq ∷ s.2, s.3, s.4, e.2)))
spoken-reached size most old new (Emit.Data head) before after held all = going-reached size new
    (∥∥₁_map {A = SomePeer size old} {B = SomePeer size new} held (λ s.
    let e = all s.0 s.1 s.2 s.3 s.4 s.5 in
    (s.0, s.1, passed Side.Sent head e.0 ∷ began Side.Sent head ∷ s.2, e.3.given_now, e.3.taken_now, e.3.stands)))
spoken-reached size most old new Emit.Nothing before after held all = going-reached size new
    (∥∥₁_map {A = SomePeer size old} {B = SomePeer size new} held (λ s.
    let e = all s.0 s.1 s.2 s.3 s.4 s.5 in
    (s.0, s.1, s.2, s.3, s.4, subst (λ (peer : Peer). IsPeer size s.0 s.1 s.2 s.3 s.4 peer) (sym e.0) s.5)))
