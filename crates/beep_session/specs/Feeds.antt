-- What a feed makes of the journal for which a peer stands (RFC 3080, sections
-- 2.2.1 and 2.3.1).
-- Each speaks of every journal for which the peer stood: none is kept.
use Rattle.std.specs.Prelude.{◌≡◌, ℕ, ◌==◌, false, List, ◌∷◌, ◌++◌}
use Rattle.std.specs.List.{list_any}
use Rattle.beep_giving.specs.beep_frame.specs.declared.head.Head.{Head}
use Rattle.beep_giving.specs.beep_history.specs.declared.journal.Side.{Side}
use Rattle.beep_giving.specs.beep_history.specs.Journal.{Item, passed}
use Rattle.beep_giving.specs.beep_standing.specs.Standing.{Marks}
use Rattle.beep_giving.specs.beep_hearing.specs.Hears.{SameAbove, Join, ends_zero, is_above, Breaks}
use Rattle.beep_session.specs.declared.event.Event.{Event}
use Rattle.beep_giving.specs.beep_peer.specs.declared.peer.Peer.{Peer}
use Rattle.beep_giving.specs.beep_peer.specs.Peering.{IsPeer, WaitsIn}

-- these octets brought these items, of which none ends a message of channel zero, and the peer
-- stands for the journal with them
pub record Gains (size : ℕ) (octets fed : List ℕ) (journal gained : List Item)
    (given taken : Marks) (peer : Peer) : Type 0 where
  pub join : Join gained journal
  pub quiet : list_any ends_zero gained ≡ false
  pub rest : List ℕ
  pub taken_now : Marks
  pub same : SameAbove taken taken_now
  pub stands : IsPeer size (fed ++ octets) rest (gained ++ journal) given taken_now peer

-- these octets brought some items, of which none is a frame above channel zero
pub record GainsSome (size : ℕ) (octets fed : List ℕ) (journal : List Item) (given taken : Marks)
    (peer : Peer) : Type 0 where
  pub gained : List Item
  pub none_above : list_any is_above gained ≡ false
  pub gains : Gains size octets fed journal gained given taken peer

-- the last of these octets ended a frame of this channel above zero, the first that they brought
pub record HasArrived (number size : ℕ) (octets fed : List ℕ) (journal : List Item)
    (given taken : Marks) (peer : Peer) : Type 0 where
  pub gained : List Item
  pub head : Head
  pub payload : List ℕ
  pub channel : head.channel ≡ number
  pub above : (number == 0) ≡ false
  pub none_above : list_any is_above gained ≡ false
  pub gains : Gains size octets fed journal (passed Side.Received head payload ∷ gained) given
      taken peer

-- the last of these octets ended the last frame of a message of channel zero, which waits; none
-- that they brought before is a frame above channel zero
pub record ZeroWaits (size : ℕ) (octets fed : List ℕ) (journal : List Item) (given taken : Marks)
    (peer : Peer) : Type 0 where
  pub gained : List Item
  pub join : Join gained journal
  pub quiet : list_any ends_zero gained ≡ false
  pub none_above : list_any is_above gained ≡ false
  pub head : Head
  pub payload : List ℕ
  pub taken_now : Marks
  pub same : SameAbove taken taken_now
  pub waits : WaitsIn size (fed ++ octets) (gained ++ journal) given taken_now head payload peer

-- what the event says of the octets used, for a peer that isn't over
abbrev pub Feeds : Event → ℕ → List ℕ → List ℕ → List Item → Marks → Marks
    → Peer → Type 0
Feeds Event.More size octets fed journal given taken peer =
    GainsSome size octets fed journal given taken peer
Feeds (Event.Arrived number) size octets fed journal given taken peer =
    HasArrived number size octets fed journal given taken peer
Feeds Event.Zero size octets fed journal given taken peer =
    ZeroWaits size octets fed journal given taken peer
Feeds Event.Released size octets fed journal given taken peer = ⊥
Feeds (Event.Broken rule place) size octets fed journal given taken peer =
    Breaks rule place size octets fed journal given taken peer.ear peer.lives
Feeds Event.NoMemory size octets fed journal given taken peer =
    GainsSome size octets fed journal given taken peer
