-- What each decision calls for is prepared.
use Rattle.std.proofs.Common.{◌≡◌, ◌<◌, true, Option, None, is_some, IfOk, sym, ap, ◌∙◌, subst, arith}
use Rattle.std.specs.Option.{option_copied}
use Rattle.std.proofs.lemmas.List.{length-map}
use Rattle.std.proofs.lemmas.Result.{IfOk-weaker}
use Rattle.beep_management.specs.beep_journal.specs.Plain.{form_in}
use Rattle.beep_management.specs.beep_channel.specs.Held.{Live}
use Rattle.beep_management.specs.beep_turns.specs.declared.turns.TheConstants.{MAX_CHANNELS}
use Rattle.beep_management.specs.beep_decide.specs.Decide.{Decision, used_count}
use Rattle.beep_management.specs.beep_decide.specs.Plain.{plain_offer, plain_standing, decision_of}
use Rattle.beep_management.specs.Values.{prepared_of}
use Rattle.beep_answering.specs.Decided.{SettledBy, SaysAnswer, IsAnswer}
use Rattle.beep_answering.proofs.DecidedLemmas.{none-tunes, chosen-start}
use Rattle.beep_answering.proofs.preparing.prepare.Goals as goal

pub prepare_choice-requires-clause-offer : goal.prepare_choice-requires-clause-offer
prepare_choice-requires-clause-offer c =
    let standing = plain_standing c.args.standing.now in
    let choice = chosen-start standing (form_in (option_copied c.args.said)) c.in-Choose.place (sym c.in_ok-code.ensures ∙ ap decision_of c.in-Choose.is) in
    omega (arith, choice.offer, length-map c.args.standing.now.offers.items plain_offer)

pub unreachable-requires : goal.unreachable-requires
unreachable-requires c =
    none-tunes (plain_standing c.args.standing.now) (form_in (option_copied c.args.said)) c.in-Tune.field-0 c.in-Tune.field-1.octets c.requires.none
    (sym (ap decision_of c.in-Tune.is) ∙ c.in_ok-code.ensures)

pub returns-in-Refuse-clause-answer : goal.returns-in-Refuse-clause-answer
returns-in-Refuse-clause-answer c =
    c.prepare_refusal.ensures.answer c.args.window (plain_standing c.args.standing.now) (form_in (option_copied c.args.said))
    (sym c.in_ok-code.ensures ∙ ap decision_of c.in-Refuse.is)

pub returns-in-Refuse-clause-settled : goal.returns-in-Refuse-clause-settled
returns-in-Refuse-clause-settled c =
    let form = form_in (option_copied c.args.said) in
    subst (λ (decision : Decision). IfOk c.prepare_refusal.result (λ prepared. SettledBy decision form prepared.settled prepared.answer.waits))
    (sym (ap decision_of c.in-Refuse.is) ∙ c.in_ok-code.ensures) (c.prepare_refusal.ensures.settled form)

pub returns-in-GrantClose-clause-answer : goal.returns-in-GrantClose-clause-answer
returns-in-GrantClose-clause-answer c =
    c.prepare_close.ensures.answer c.args.window (plain_standing c.args.standing.now) (form_in (option_copied c.args.said))
    (sym c.in_ok-code.ensures ∙ ap decision_of c.in-GrantClose.is)

pub returns-in-Refuse-clause-message : goal.returns-in-Refuse-clause-message
returns-in-Refuse-clause-message c =
    let standing = plain_standing c.args.standing.now in
    subst (λ (decision : Decision). IfOk c.prepare_refusal.result (λ prepared. SaysAnswer standing decision prepared.answer.octets.octets))
    (sym (ap decision_of c.in-Refuse.is) ∙ c.in_ok-code.ensures) (c.prepare_refusal.ensures.message standing)

pub returns-in-GrantClose-clause-message : goal.returns-in-GrantClose-clause-message
returns-in-GrantClose-clause-message c =
    let standing = plain_standing c.args.standing.now in
    subst (λ (decision : Decision). IfOk c.prepare_close.result (λ prepared. SaysAnswer standing decision prepared.answer.octets.octets))
    (sym (ap decision_of c.in-GrantClose.is) ∙ c.in_ok-code.ensures) (c.prepare_close.ensures.message standing)

pub returns-in-Refuse-clause-few : goal.returns-in-Refuse-clause-few
returns-in-Refuse-clause-few c =
    IfOk-weaker c.prepare_refusal.result (λ prepared. prepared.channel ≡ None)
    (λ prepared. is_some prepared.channel ≡ true → used_count (plain_standing c.args.standing.now) < MAX_CHANNELS)
    (λ prepared none some. absurd (cc (sym some ∙ ap (λ (o : Option Live). is_some o) none))) c.prepare_refusal.ensures.none

pub returns-in-Choose-clause-few : goal.returns-in-Choose-clause-few
returns-in-Choose-clause-few c =
    let standing = plain_standing c.args.standing.now in
    let form = form_in (option_copied c.args.said) in
    let chosen = sym c.in_ok-code.ensures ∙ ap decision_of c.in-Choose.is in
    IfOk-weaker c.prepare_choice.result (λ prepared. IsAnswer c.args.window form (prepared_of prepared.answer) prepared.channel)
    (λ prepared. is_some prepared.channel ≡ true → used_count standing < MAX_CHANNELS)
    (λ prepared answers some. (chosen-start standing form c.in-Choose.place chosen).few)
    (c.prepare_choice.ensures.answer form chosen (sym c.number_in.ensures))

pub returns-in-GrantClose-clause-few : goal.returns-in-GrantClose-clause-few
returns-in-GrantClose-clause-few c =
    IfOk-weaker c.prepare_close.result (λ prepared. prepared.channel ≡ None)
    (λ prepared. is_some prepared.channel ≡ true → used_count (plain_standing c.args.standing.now) < MAX_CHANNELS)
    (λ prepared none some. absurd (cc (sym some ∙ ap (λ (o : Option Live). is_some o) none))) c.prepare_close.ensures.none
