-- What a contract sees of a session: its parts that stand for a journal, and its terms.
use Rattle.std.specs.Prelude.{◌≡◌, ◌<◌, ◌≤◌, true, List, length}
use Rattle.std.specs.List.{list_all}
use Rattle.beep_giving.specs.beep_journal.specs.declared.role.Role.{Role}
use Rattle.beep_giving.specs.beep_seq.specs.declared.limits.TheConstants.{MIN_WINDOW, MAX_WINDOW}
use Rattle.beep_giving.specs.beep_decide.specs.Decide.{PlainOffer}
use Rattle.beep_session.specs.declared.limits.Limits.{Limits}
use Rattle.beep_settings.specs.declared.limits.TheConstants.{MAX_PIECE}
use Rattle.beep_giving.specs.beep_answering.specs.declared.offers.TheConstants.{MAX_OFFERS}
use Rattle.beep_giving.specs.beep_peer.specs.declared.peer.Peer.{Peer}
use Rattle.beep_giving.specs.beep_answering.specs.Decided.{NoneTunes}
use Rattle.beep_giving.specs.beep_peer.specs.Peering.{IsReached}
use Rattle.beep_giving.specs.beep_answering.specs.Sent.{is_uri}

-- which end it is, what it offers, what it sets for itself, and the parts that stand for a journal
pub record Held : Type 0 where
  pub role : Role
  pub offers : List PlainOffer
  pub limits : Limits
  pub peer : Peer

-- the limits are within their ranges
pub record AreLimits (limits : Limits) : Type 0 where
  pub least : MIN_WINDOW ≤ limits.window
  pub greatest : limits.window ≤ MAX_WINDOW
  pub some : 0 < limits.piece
  pub most : limits.piece ≤ MAX_PIECE

-- the offers are at most as many as there may be, with URIs that may be offered, and none is tuning
pub record AreOffers (offers : List PlainOffer) : Type 0 where
  pub few : length offers ≤ MAX_OFFERS
  pub uris : list_all (λ offer. is_uri offer.uri) offers ≡ true
  pub none : NoneTunes offers

-- what holds of each session
pub record IsSession (held : Held) : Type 0 where
  pub limits : AreLimits held.limits
  pub offers : AreOffers held.offers
  pub reached : IsReached held.limits.window held.peer
