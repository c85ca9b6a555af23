-- A new session stands for the empty journal, as its peer does.
use Rattle.std.proofs.Common.{◌≡◌, ◌∙◌, ℕ, true, List, map, refl, sym, ap, subst, arith}
use Rattle.std.specs.List.{list_all}
use Rattle.std.proofs.lemmas.Grind.{merely}
use Rattle.std.proofs.lemmas.List.{length-map}
use Rattle.std.proofs.lemmas.List.Folds.{list_all-map}
use Rattle.beep_giving.specs.beep_mgmt.specs.Message.{message_text}
use Rattle.beep_giving.specs.beep_decide.specs.declared.decision.Offer.{Offer}
use Rattle.beep_giving.specs.beep_decide.specs.Decide.{PlainOffer}
use Rattle.beep_giving.specs.beep_decide.specs.Plain.{plain_offer}
use Rattle.beep_giving.specs.beep_answering.specs.Sent.{is_uri, greeting_of}
use Rattle.beep_giving.specs.beep_answering.specs.Decided.{NoneTunes}
use Rattle.beep_giving.specs.beep_peer.specs.Calls.{Begins}
use Rattle.beep_session.proofs.session.Session.new.Goals as goal

pub begin-requires-clause-greeting : goal.begin-requires-clause-greeting
begin-requires-clause-greeting c = merely (_, c.in_ok-greeting.ensures)

-- the URIs are those of the offers
uris-are : (offers items : List Offer) → items ≡ offers → list_all (λ offer. is_uri offer.uri) offers ≡ true
    → list_all (λ offer. is_uri offer.uri) (map plain_offer items) ≡ true
uris-are offers items are uris =
    list_all-map (λ (offer : PlainOffer). is_uri offer.uri) plain_offer items
    ∙ subst (λ (l : List Offer). list_all (λ offer. is_uri offer.uri) l ≡ true) (sym are) uris

pub invariant_of-result : goal.invariant_of-result
invariant_of-result c = (
  record {
    limits = c.requires.limits;
    offers = record {
      few = omega (arith, length-map c.into_vec-offers.result.items plain_offer, c.into_vec-offers.ensures.few);
      uris = uris-are c.args.offers c.into_vec-offers.result.items c.into_vec-offers.ensures.items c.requires.uris;
      none = subst (λ (l : List Offer). NoneTunes (map plain_offer l)) (sym c.into_vec-offers.ensures.items) c.requires.none;
    };
    reached = c.in_ok-peer.ensures.reached;
  },
  omega (arith, c.in_ok-reserve.ensures.ok),
)

pub returns-clause-stands : goal.returns-clause-stands
returns-clause-stands c =
    subst (λ (o : List ℕ). Begins c.args.limits.window o c.in_ok-peer.peer)
    (c.in_ok-greeting.ensures.text
    ∙ ap (λ (offers : List Offer). message_text (greeting_of (map plain_offer offers))) (c.deref.ensures.value ∙ c.into_vec-offers.ensures.items))
    (c.in_ok-peer.ensures.begins _ c.in_ok-greeting.ensures)

pub returns-clause-lawful : goal.returns-clause-lawful
returns-clause-lawful c begun = record {
  stands = begun.stands;
  upright = c.in_ok-peer.ensures.upright _ _ c.in_ok-greeting.ensures;
  lawful = refl;
}
