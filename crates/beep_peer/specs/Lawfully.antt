-- When a peer stands for a lawful journal, and what its calls make of that (RFC 3080, sections 2.1
-- to 2.3; RFC 3081, section 3.1).
-- The code keeps no journal, and tests none of this: each call that gives leaves what goes out
-- lawful.
use Rattle.std.specs.Prelude.{◌≡◌, ℕ, true, false, List, ◌∷◌, ◌++◌}
use Rattle.beep_upright.specs.beep_frame.specs.declared.head.Head.{Head}
use Rattle.beep_upright.specs.beep_frame.specs.Frame.{framed, seq_frame}
use Rattle.beep_upright.specs.beep_frame.specs.Spelling.{spelling}
use Rattle.beep_upright.specs.beep_history.specs.declared.journal.Side.{Side}
use Rattle.beep_upright.specs.beep_history.specs.Journal.{Item, began, passed, told}
use Rattle.beep_upright.specs.beep_journal.specs.Broken.{none_tunes}
use Rattle.beep_upright.specs.beep_lawful.specs.declared.terms.Terms.{Terms}
use Rattle.beep_upright.specs.beep_lawful.specs.Lawful.{IsLawful}
use Rattle.beep_upright.specs.beep_standing.specs.Standing.{Marks}
use Rattle.beep_upright.specs.beep_speaking.specs.declared.emit.Emit.{Emit}
use Rattle.beep_upright.specs.Turns.{kinds_at}
use Rattle.beep_upright.specs.Upright.{asked_at, AreReady, IsUpright}
use Rattle.beep_hearing.specs.Hears.{ends_zero}
use Rattle.beep_upright.specs.beep_channel.specs.Held.{Live}
use Rattle.beep_upright.specs.beep_management.specs.Managed.{Managed}
use Rattle.beep_peer.specs.declared.peer.Peer.{Peer}
use Rattle.beep_peer.specs.Peering.{IsPeer}
use Rattle.beep_peer.specs.Calls.{IsSent}

-- a peer stands for a lawful journal, and what it has to say may lawfully go out as its turn comes
pub record IsLawfulPeer (terms : Terms) (fed rest : List ℕ) (journal : List Item)
    (given taken : Marks) (peer : Peer) : Type 0 where
  pub stands : IsPeer terms.window fed rest journal given taken peer
  pub upright : IsUpright terms journal peer.lives peer.management
  pub lawful : IsLawful terms none_tunes journal

-- the frame of an end that was upright has gone: where it ends no message of channel zero the end
-- is so still, and else what is left may go after that message
pub record GoesUprightly (terms : Terms) (journal : List Item) (head : Head) (payload : List ℕ)
    (channels : List Live) (m : Managed) : Type 0 where
  pub quiet : ends_zero (passed Side.Sent head payload) ≡ false
      → IsUpright terms (passed Side.Sent head payload ∷ began Side.Sent head ∷ journal) channels m
  pub ends : ends_zero (passed Side.Sent head payload) ≡ true
      → AreReady terms journal (head.kind ∷ kinds_at 0 channels) (asked_at channels) m

-- a frame went out, and the peer stands for the lawful journal with it
pub record SendsLawfully (terms : Terms) (fed rest : List ℕ) (journal : List Item)
    (given taken : Marks) (head : Head) (old new : Peer) (before after : List ℕ) : Type 0 where
  pub payload : List ℕ
  pub spelled : after ≡ before ++ spelling (framed head payload)
  pub sent : IsSent terms.window fed rest journal
      (passed Side.Sent head payload ∷ began Side.Sent head ∷ journal) given taken
      old.management.answers new
  pub upright : IsUpright terms
      (passed Side.Sent head payload ∷ began Side.Sent head ∷ journal) new.lives new.management
  pub lawful : IsLawful terms none_tunes
      (passed Side.Sent head payload ∷ began Side.Sent head ∷ journal)

-- what an emit leaves of a peer that stood for a lawful journal, and of the octets before and after
abbrev pub SpeaksLawfully : Emit → Terms → List ℕ → List ℕ → List Item → Marks → Marks
    → Peer → Peer → List ℕ → List ℕ → Type 0
SpeaksLawfully (Emit.Seq seq) terms fed rest journal given taken old new before after =
    (after ≡ before ++ spelling (seq_frame seq))
    × IsLawfulPeer terms fed rest (told Side.Sent seq ∷ journal) given taken new
SpeaksLawfully (Emit.Data head) terms fed rest journal given taken old new before after =
    SendsLawfully terms fed rest journal given taken head old new before after
SpeaksLawfully Emit.Nothing terms fed rest journal given taken old new before after =
    (after ≡ before) × IsLawfulPeer terms fed rest journal given taken new
