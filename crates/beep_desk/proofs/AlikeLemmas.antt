-- What stands alike is decided alike.
use Rattle.std.proofs.Common.{◌≡◌, ◌∙◌, refl, ap, ℕ, Bool, not, ◌||◌, List, [], ◌∷◌, Option, None, Some}
use Rattle.std.specs.Prelude.{nat_lt, nat_le}
use Rattle.beep_peer.specs.beep_mgmt.specs.Form.{Form, PlainProfile, greeting, start, chosen, close, okay, fault}
use Rattle.beep_peer.specs.beep_decide.specs.declared.decision.Placed.{Placed}
use Rattle.beep_peer.specs.beep_turns.specs.declared.turns.TheConstants.{MAX_CHANNELS}
use Rattle.beep_peer.specs.beep_decide.specs.Numbers.{other_role, may_start}
use Rattle.beep_peer.specs.beep_decide.specs.Decide.{PlainStanding, Decision, refuse, choose, tune, grant_close, is_among, is_used, used_count, offer_of, first_offered, first_row, has_other_encoding, decide_offer, decide_profile, decide_start, decide_close, decide, answer_of}
use Rattle.beep_desk.specs.Alike.{StandsAlike}

module _ (one other : PlainStanding) (s : StandsAlike one other) where
  used : (number : ℕ) → is_used one number ≡ is_used other number
  used number = ap (λ b. b || is_among number one.starting) (s.live number) ∙ ap (λ b. is_among number other.live || b) (s.starting number)

  offer-alike : (profile : PlainProfile) (placed : Option Placed) → decide_offer one profile placed ≡ decide_offer other profile placed
  offer-alike profile None = refl
  offer-alike profile (Some offer) =
      ap (λ c. first_row ((has_other_encoding profile.encoding, refuse 504) ∷ (not profile.readable, refuse 501) ∷ (not offer.tuning, choose offer.place) ∷ (nat_lt 0 c, refuse 550) ∷ [])
      (tune offer.place profile.content)) s.count

  profile-alike : (profile : Option PlainProfile) → decide_profile one profile ≡ decide_profile other profile
  profile-alike None = refl
  profile-alike (Some profile) = offer-alike profile (offer_of profile.uri one.offers) ∙ ap (λ o. decide_offer other profile (offer_of profile.uri o)) s.offers

  -- the rows of a start
  abbrev rows : Bool → Bool → Bool → ℕ → Decision → Decision
  rows leaving may in_use count last =
      first_row ((leaving, refuse 550) ∷ (not may, refuse 553) ∷ (in_use, refuse 550) ∷ (nat_le MAX_CHANNELS count, refuse 450) ∷ []) last

  start-alike : (number : ℕ) (profiles : List PlainProfile) → decide_start one number profiles ≡ decide_start other number profiles
  start-alike number profiles =
      ap (λ l. rows l (may_start (other_role one.role) number) (is_used one number) (used_count one) (decide_profile one (first_offered one.offers profiles))) s.leaving
      ∙ ap (λ r. rows other.leaving (may_start (other_role r) number) (is_used one number) (used_count one) (decide_profile one (first_offered one.offers profiles))) s.role
      ∙ ap (λ u. rows other.leaving (may_start (other_role other.role) number) u (used_count one) (decide_profile one (first_offered one.offers profiles))) (used number)
      ∙ ap (λ c. rows other.leaving (may_start (other_role other.role) number) (is_used other number) c (decide_profile one (first_offered one.offers profiles))) s.count
      ∙ ap (λ d. rows other.leaving (may_start (other_role other.role) number) (is_used other number) (used_count other) d)
      (profile-alike (first_offered one.offers profiles) ∙ ap (λ o. decide_profile other (first_offered o profiles)) s.offers)

  close-alike : (number : ℕ) → decide_close one number ≡ decide_close other number
  close-alike number = rw (s.live number) (rw (s.closing number) refl)

  pub decide-alike : (said : Option Form) → decide one said ≡ decide other said
  decide-alike None = refl
  decide-alike (Some (greeting features localize profiles)) = refl
  decide-alike (Some (start number server profiles)) = start-alike number profiles
  decide-alike (Some (chosen profile)) = refl
  decide-alike (Some (close number code note)) = close-alike number
  decide-alike (Some okay) = refl
  decide-alike (Some (fault code note)) = refl

  pub answer-alike : (decision : Decision) → answer_of one decision ≡ answer_of other decision
  answer-alike (refuse code) = refl
  answer-alike (choose place) = rw s.offers refl
  answer-alike (tune place content) = refl
  answer-alike grant_close = refl
