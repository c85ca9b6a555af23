-- What a program gives and takes leaves of a session, for every journal for which it stood.
use Rattle.std.proofs.Common.{◌≡◌, ℕ, ◌++◌, List, Option, None, Some, Result, Ok, Err, sym, subst}
use Rattle.std.specs.Prelude.{OnOk, OnErr, IfSome, IfNone}
use Rattle.std.proofs.Math.Logic.{∥∥₁_map}
use Rattle.beep_giving.specs.beep_frame.specs.declared.kind.Kind.{Kind}
use Rattle.beep_giving.specs.beep_history.specs.Journal.{Item}
use Rattle.beep_giving.specs.beep_inbox.specs.declared.part.Part.{Part}
use Rattle.beep_giving.specs.beep_inbox.specs.Laws.{part_marks}
use Rattle.beep_giving.specs.beep_outbox.specs.Queue.{message_marks}
use Rattle.beep_giving.specs.beep_standing.specs.Standing.{Marks, with_marks}
use Rattle.beep_giving.specs.beep_peer.specs.declared.peer.Peer.{Peer}
use Rattle.beep_giving.specs.beep_peer.specs.Peering.{IsPeer, IsGoing, IsReached}
use Rattle.beep_giving.specs.beep_peer.specs.Acts.{IsUnchanged}
use Rattle.beep_giving.specs.Giving.{next_message, GivesMessage, TakesMarks}
use Rattle.beep_session.specs.Session.{Held}
use Rattle.beep_session.specs.Channels.{IsOfPeer, Gives, Takes}
use Rattle.beep_session.proofs.ActLemmas.{SomePeer, going-reached, still-peer}

-- ---- a message that is given

module _ {A E : Type 0} (number : ℕ) (kind : Kind) (octets : List ℕ) where
  -- a peer that went on goes on after it
  pub given-reached : (size : ℕ) (old new : Peer) → IsGoing size old → (result : Result A E)
      → ((fed rest : List ℕ) (journal : List Item) (given taken : Marks) → IsPeer size fed rest journal given taken old
      → OnOk result (GivesMessage number size fed rest journal given taken kind octets new))
      → OnErr result (IsUnchanged old new) → IsReached size new
  given-reached size old new held (Ok value) ok err = going-reached size new
      (∥∥₁_map {A = SomePeer size old} {B = SomePeer size new} held (λ s. (
        s.0,
        s.1,
        s.2,
        with_marks number (s.3 number ++ message_marks (next_message kind octets (s.3 number))) s.3,
        s.4,
        (ok s.0 s.1 s.2 s.3 s.4 s.5).stands,
      )))
  given-reached size old new held (Err error) ok err = going-reached size new
      (∥∥₁_map {A = SomePeer size old} {B = SomePeer size new} held (λ s.
      (s.0, s.1, s.2, s.3, s.4, still-peer size old new s.0 s.1 s.2 s.3 s.4 err s.5)))

  -- it is given in the session
  pub session-gives : (old new : Held) (result : Result A E)
      → ((fed rest : List ℕ) (journal : List Item) (given taken : Marks) → IsPeer old.limits.window fed rest journal given taken old.peer
      → OnOk result (GivesMessage number old.limits.window fed rest journal given taken kind octets new.peer))
      → new.peer.management ≡ old.peer.management → IsOfPeer old new → OnOk result (Gives number kind octets old new)
  session-gives old new (Ok value) ok kept same = record { gives = ok; kept = kept; same = same }
  session-gives old new (Err error) ok kept same = tt

-- ---- a part that is taken

module _ (number : ℕ) (octets : List ℕ) where
  pub taken-reached : (size : ℕ) (old new : Peer) → IsGoing size old → (result : Option Part)
      → ((fed rest : List ℕ) (journal : List Item) (given taken : Marks) → IsPeer size fed rest journal given taken old
      → IfSome result (λ part. TakesMarks number size fed rest journal given taken part octets old.management.answers new))
      → IfNone result (new ≡ old) → IsReached size new
  taken-reached size old new held (Some part) some none = going-reached size new
      (∥∥₁_map {A = SomePeer size old} {B = SomePeer size new} held (λ s.
      let t = some s.0 s.1 s.2 s.3 s.4 s.5 in
      (s.0, s.1, s.2, t.given_now, with_marks number (s.4 number ++ part_marks part octets) s.4, t.stands)))
  taken-reached size old new held None some none = going-reached size new (subst (IsGoing size) (sym none) held)

  pub session-takes : (old new : Held) (result : Option Part)
      → ((fed rest : List ℕ) (journal : List Item) (given taken : Marks) → IsPeer old.limits.window fed rest journal given taken old.peer
      → IfSome result (λ part. TakesMarks number old.limits.window fed rest journal given taken part octets old.peer.management.answers new.peer))
      → IsOfPeer old new → IfSome result (λ part. Takes number part octets old new)
  session-takes old new (Some part) some same = record { takes = some; same = same }
  session-takes old new None some same = tt
