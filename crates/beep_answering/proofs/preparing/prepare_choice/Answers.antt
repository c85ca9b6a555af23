-- The message of a choice has the form of a RPY, and its channel is fresh.
use Rattle.std.proofs.Common.{◌∷◌, [], ◌++◌, ℕ, List, Some, refl, sym, subst}
use Rattle.beep_management.specs.beep_frame.specs.declared.kind.Kind.{Kind}
use Rattle.beep_management.specs.beep_mgmt.specs.Form.{chosen}
use Rattle.beep_management.specs.beep_decide.specs.Plain.{plain_offer, plain_standing}
use Rattle.beep_management.specs.declared.wait.Wait.{Wait}
use Rattle.beep_management.specs.Manages.{AreFresh}
use Rattle.beep_answering.specs.Sent.{plain_listed}
use Rattle.beep_answering.proofs.DecidedLemmas.{answers, says-offer, offer-read, offer-form, fresh-one, chosen-number}
use Rattle.beep_answering.proofs.preparing.prepare_choice.Goals as goal

pub returns-clause-answer : goal.returns-clause-answer
returns-clause-answer c form e is =
    let standing = plain_standing c.args.standing.now in
    let offer = plain_offer c.in-Some.offer.now in
    let read = offer-read c.args.standing.now.offers.items c.deref.result.now c.args.place c.in-Some.offer.now c.deref.ensures.value c.requires.offer c.in-Some.ensures.lookup.1 in
    let channel = c.in_ok-new.field-0 in
    answers c.args.window form Kind.Rpy (chosen (plain_listed offer)) c.in_ok-choice_text.field-0.octets Wait.Nothing (Some channel) refl refl
    (λ position. offer-form standing form c.args.place position offer e read)
    c.in_ok-choice_text.ensures
    (subst (λ (numbers : List ℕ). AreFresh c.args.window (numbers ++ []) (channel ∷ [])) (sym (chosen-number standing form c.args.place c.args.number e is))
    (fresh-one c.args.window c.args.number channel c.requires.above c.in_ok-new.ensures.number c.in_ok-new.ensures.stands))

pub returns-clause-message : goal.returns-clause-message
returns-clause-message c =
    says-offer (plain_standing c.args.standing.now) c.args.place (plain_offer c.in-Some.offer.now) c.in_ok-choice_text.field-0.octets
    (offer-read c.args.standing.now.offers.items c.deref.result.now c.args.place c.in-Some.offer.now c.deref.ensures.value c.requires.offer c.in-Some.ensures.lookup.1)
    c.in_ok-choice_text.ensures
