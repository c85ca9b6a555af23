-- What the table of answers means, in words that need less of it (RFC 3080, section 2.3.1.2).
use Rattle.std.specs.Prelude.{◌≡◌, ℕ, Bool, false, List, ◌∷◌, ◌++◌, length, bytes_eq, is_some}
use Rattle.std.specs.List.{list_any}
use Rattle.beep_mgmt.specs.Form.{PlainProfile}
use Rattle.beep_decide.specs.Decide.{PlainOffer, offer_of}

-- the first offer of this URI stands at this place, from 0, and is tuning or isn't
pub record IsOfferAt (offers : List PlainOffer) (uri : List ℕ) (place : ℕ) (tuning : Bool) : Type 0
  where
    pub before : List PlainOffer
    pub after : List PlainOffer
    pub whole : offers ≡ before ++ record { uri = uri; tuning = tuning } ∷ after
    pub placed : length before ≡ place
    pub first : list_any (λ offer. bytes_eq offer.uri uri) before ≡ false

-- of the listed profiles the first that is offered is offered at this place, and isn't tuning
pub record IsFirstOffered (offers : List PlainOffer) (listed : List PlainProfile) (place : ℕ)
    : Type 0 where
  pub before : List PlainProfile
  pub profile : PlainProfile
  pub after : List PlainProfile
  pub whole : listed ≡ before ++ profile ∷ after
  pub none_before : list_any (λ other. is_some (offer_of other.uri offers)) before ≡ false
  pub offered : IsOfferAt offers profile.uri place false
