use Rattle.std.proofs.Common.{◌∙◌, false, [], ◌∷◌, ◌++◌, refl, ap, sym, subst}
use Rattle.beep_two_sessions.specs.beep_decide.specs.declared.decision.Offer.{Offer}
use Rattle.beep_two_sessions.specs.beep_session.specs.Session.{AreLimits}
use Rattle.beep_pair.proofs.UriLemmas.{offer_fits, offer_is}
use Rattle.beep_pair.proofs.GreetingLemmas.{short_greeting}
use Rattle.beep_pair.proofs.ReadyLemmas.{begun_with}
use Rattle.beep_pair.proofs.pair.new_end.Goals as goal

pub new-requires-clause-uris : goal.new-requires-clause-uris
new-requires-clause-uris c = offer_fits c.push.new.self (record { uri = c.in_ok-uri.uri; tuning = false }) (c.in_ok-push.ensures.ok ∙ ap (λ xs. xs ++ record { uri = c.in_ok-uri.uri; tuning = false } ∷ []) c.new-offers.ensures) c.in_ok-uri.ensures.uri

pub returns-clause-ready : goal.returns-clause-ready
returns-clause-ready c = begun_with _ c.args.limits c.in_ok-session.session c.in_ok-session.ensures.stands c.in_ok-session.ensures.terms.2

pub returns-clause-begun : goal.returns-clause-begun
returns-clause-begun c =
    let e = c.in_ok-session.ensures in
    let offer : Offer = record { uri = c.in_ok-uri.uri; tuning = false } in
    record {
      given = e.stands.given;
      above = e.stands.same;
      limits = subst (λ limits. AreLimits limits) (sym e.terms.2) c.requires.limits;
      stands = e.lawful e.stands;
      greets = short_greeting c.in_ok-session.session e.stands.message e.stands.given _ e.stands.is_rpy e.stands.is_text e.stands.given_is
          (offer_is c.push.new.self offer (c.in_ok-push.ensures.ok ∙ ap (λ xs. xs ++ offer ∷ []) c.new-offers.ensures) c.in_ok-uri.ensures.uri refl);
    }

pub returns-clause-offers : goal.returns-clause-offers
returns-clause-offers c =
    let offer : Offer = record { uri = c.in_ok-uri.uri; tuning = false } in
    c.in_ok-session.ensures.terms.1
    ∙ offer_is c.push.new.self offer (c.in_ok-push.ensures.ok ∙ ap (λ xs. xs ++ offer ∷ []) c.new-offers.ensures) c.in_ok-uri.ensures.uri refl
