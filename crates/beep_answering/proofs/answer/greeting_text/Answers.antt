-- The message of a greeting is short enough to be read.
use Rattle.std.proofs.Common.{◌≡◌, true, List, None, map, subst, sym, ap, ◌∙◌, arith}
use Rattle.std.proofs.lemmas.List.{take_all}
use Rattle.std.proofs.lemmas.List.{length-map}
use Rattle.std.proofs.lemmas.List.Folds.{list_all-map}
use Rattle.std.specs.List.{list_all}
use Rattle.beep_management.specs.beep_mgmt.specs.Form.{PlainProfile, greeting}
use Rattle.beep_management.specs.beep_mgmt.specs.Written.{is_uri_allowed}
use Rattle.beep_management.specs.beep_decide.specs.declared.decision.Offer.{Offer}
use Rattle.beep_management.specs.beep_decide.specs.Plain.{plain_offer}
use Rattle.beep_answering.specs.Sent.{plain_listed, greeting_of, is_uri}
use Rattle.beep_answering.proofs.LengthLemmas.{greeting-length, offers-back, offers-allowed}
use Rattle.beep_answering.proofs.MessageLemmas.{is-message-of}
use Rattle.beep_answering.proofs.answer.greeting_text.Goals as goal

pub message_of-requires : goal.message_of-requires
message_of-requires c =
    let all = c.loop-offer.invariant ∙ ap (λ (os : List Offer). map plain_listed (map plain_offer os)) (take_all c.loop-offer.offer-index c.args.offers.now c.loop-offer-test.false) in
    record {
      writable = subst (λ (ps : List PlainProfile). list_all is_uri_allowed ps ≡ true) (sym all)
          (offers-allowed (map plain_offer c.args.offers.now) (list_all-map (λ offer. is_uri offer.uri) plain_offer c.args.offers.now ∙ c.requires.uris));
    }

pub returns : goal.returns
returns c =
    let all = c.loop-offer.invariant ∙ ap (λ (os : List Offer). map plain_listed (map plain_offer os)) (take_all c.loop-offer.offer-index c.args.offers.now c.loop-offer-test.false) in
    is-message-of (λ o. o.octets) c.message_of.result _ (greeting_of (map plain_offer c.args.offers.now)) (ap (λ (ps : List PlainProfile). greeting None None ps) all)
    c.message_of.ensures.text c.message_of.ensures.says (offers-back (map plain_offer c.args.offers.now))
    (greeting-length (map plain_offer c.args.offers.now) (omega (arith, length-map c.args.offers.now plain_offer, c.requires.few))
    (list_all-map (λ offer. is_uri offer.uri) plain_offer c.args.offers.now ∙ c.requires.uris))
