-- The profile that both ends offer.
use Rattle.std.proofs.Common.{◌≡◌, ℕ, Bool, true, false, ◌&&◌, List, [], ◌∷◌, map, refl, ap, ◌∙◌, codes, rules}
use Rattle.std.specs.List.{list_all}
use Rattle.std.specs.Str.{chars}
use Rattle.std.proofs.lemmas.Str.{chars-IsAscii}
use Rattle.beep_two_sessions.specs.beep_decide.specs.declared.decision.Offer.{Offer}
use Rattle.beep_two_sessions.specs.beep_answering.specs.Sent.{is_uri}
use Rattle.beep_two_sessions.specs.beep_decide.specs.Plain.{plain_offer}
use Rattle.beep_two_sessions.specs.beep_decide.specs.Decide.{PlainOffer}
use Rattle.beep_pair.specs.Acts.{pair_uri}
use Rattle.beep_pair.specs.Command.{pair_offers}

pub is_pair_uri : (text : List ℕ) → text ≡ chars (codes "http://beep.example/pair") → text ≡ pair_uri
unfolding pair_uri
is_pair_uri text e = e ∙ chars-IsAscii (codes "http://beep.example/pair") (search rules)

pub uri_fits : is_uri pair_uri ≡ true
unfolding pair_uri
uri_fits = refl

pub offer_fits : (offers : List Offer) (offer : Offer) → offers ≡ offer ∷ [] → offer.uri ≡ pair_uri → list_all (λ o. is_uri o.uri) offers ≡ true
offer_fits offers offer e u = ap (list_all (λ o. is_uri o.uri)) e ∙ fits (is_uri offer.uri) (ap is_uri u ∙ uri_fits)
  where
    fits : (b : Bool) → b ≡ true → (b && true) ≡ true
    fits b h = rw h refl

pub offer_is : (offers : List Offer) (offer : Offer) → offers ≡ offer ∷ [] → offer.uri ≡ pair_uri → offer.tuning ≡ false → map plain_offer offers ≡ pair_offers
offer_is offers offer e u t =
    ap (map plain_offer) e ∙ ap (λ uri. record { uri = uri; tuning = offer.tuning } ∷ []) u ∙ ap (λ tuning. record { uri = pair_uri; tuning = tuning } ∷ []) t
