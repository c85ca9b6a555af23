-- When a session stands for a lawful journal, and what a feed makes of that (RFC 3080, sections 2.1
-- to 2.3; RFC 3081, section 3.1).
-- The code keeps no journal, and tests none of this: each call leaves what goes out lawful.
use Rattle.std.specs.Prelude.{ℕ, List, ◌++◌}
use Rattle.beep_giving.specs.beep_history.specs.Journal.{Item}
use Rattle.beep_giving.specs.beep_journal.specs.Broken.{none_tunes}
use Rattle.beep_giving.specs.beep_lawful.specs.declared.terms.Terms.{Terms}
use Rattle.beep_giving.specs.beep_lawful.specs.Lawful.{IsLawful}
use Rattle.beep_giving.specs.beep_standing.specs.Standing.{Marks}
use Rattle.beep_giving.specs.beep_upright.specs.Upright.{IsUpright}
use Rattle.beep_giving.specs.beep_peer.specs.declared.peer.Peer.{Peer}
use Rattle.beep_giving.specs.beep_peer.specs.Peering.{IsPeer}
use Rattle.beep_giving.specs.beep_peer.specs.Lawfully.{IsLawfulPeer}
use Rattle.beep_session.specs.declared.event.Event.{Event}
use Rattle.beep_session.specs.Feeds.{Gains, ZeroWaits}
use Rattle.beep_session.specs.Session.{Held}

-- what a session holds itself to: its role, its window and its piece
abbrev pub terms_of : Held → Terms
terms_of session = record {
  role = session.role;
  window = session.limits.window;
  piece = session.limits.piece;
}

-- a session stands for a lawful journal, and what it has to say may lawfully go out as its turn
-- comes
abbrev pub IsLawfulSession : Held → List ℕ → List ℕ → List Item → Marks → Marks → Type 0
IsLawfulSession session fed rest journal given taken =
    IsLawfulPeer (terms_of session) fed rest journal given taken session.peer

-- a call leaves what the session has to say such that it may lawfully go out
abbrev pub KeepsUpright : Held → Held → Type 0
KeepsUpright old new = (fed rest : List ℕ) (journal : List Item) (given taken : Marks)
    → IsPeer old.limits.window fed rest journal given taken old.peer
    → IsUpright (terms_of old) journal old.peer.lives old.peer.management
    → IsUpright (terms_of old) journal new.peer.lives new.peer.management

-- ---- a feed

-- the octets brought some items, and the peer stands lawfully for the journal with them
pub record GainsLawfully (terms : Terms) (octets fed : List ℕ) (journal : List Item)
    (given taken : Marks) (peer : Peer) : Type 0 where
  pub gained : List Item
  pub gains : Gains terms.window octets fed journal gained given taken peer
  pub lawful : IsLawfulPeer terms (fed ++ octets) gains.rest (gained ++ journal) given
      gains.taken_now peer

-- the same, where the last of them ended the last frame of a message of channel zero, which waits
pub record WaitsLawfully (terms : Terms) (octets fed : List ℕ) (journal : List Item)
    (given taken : Marks) (peer : Peer) : Type 0 where
  pub zero : ZeroWaits terms.window octets fed journal given taken peer
  pub upright : IsUpright terms (zero.gained ++ journal) peer.lives peer.management
  pub lawful : IsLawful terms none_tunes (zero.gained ++ journal)

-- what the event says of the octets used; after a broken rule nothing goes out
abbrev pub FeedsLawfully : Event → Terms → List ℕ → List ℕ → List Item → Marks → Marks
    → Peer → Type 0
FeedsLawfully Event.More terms octets fed journal given taken peer =
    GainsLawfully terms octets fed journal given taken peer
FeedsLawfully (Event.Arrived number) terms octets fed journal given taken peer =
    GainsLawfully terms octets fed journal given taken peer
FeedsLawfully Event.Zero terms octets fed journal given taken peer =
    WaitsLawfully terms octets fed journal given taken peer
FeedsLawfully Event.Released terms octets fed journal given taken peer = Unit {0}
FeedsLawfully (Event.Broken rule place) terms octets fed journal given taken peer = Unit {0}
FeedsLawfully Event.NoMemory terms octets fed journal given taken peer =
    GainsLawfully terms octets fed journal given taken peer
