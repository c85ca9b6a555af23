-- What the values of the plain program stand for.
use Rattle.std.specs.Prelude.{map}
use Rattle.beep_decide.specs.declared.decision.Answer.{Answer}
use Rattle.beep_decide.specs.declared.decision.Offer.{Offer}
use Rattle.beep_decide.specs.declared.decision.Standing.{Standing}
use Rattle.beep_decide.specs.Decide.{PlainOffer, PlainStanding, Decision, refuse, choose, tune, grant_close}

-- an offer of the code as a value
abbrev pub plain_offer : Offer → PlainOffer
plain_offer offer = record { uri = offer.uri; tuning = offer.tuning }

-- what an end holds, as a value
abbrev pub plain_standing : Standing → PlainStanding
plain_standing standing = record {
  role = standing.role;
  offers = map plain_offer standing.offers.items;
  live = standing.live.items;
  starting = standing.starting.items;
  closing = standing.closing.items;
  leaving = standing.leaving;
}

-- the decision that a value in code stands for
abbrev pub decision_of : Answer → Decision
decision_of (Answer.Refuse code) = refuse code
decision_of (Answer.Choose place) = choose place
decision_of (Answer.Tune place content) = tune place content.octets
decision_of Answer.GrantClose = grant_close
