-- What an end of a link is to do: to send lines or to listen for them, and by which settings (RFC
-- 3195, section 3).
-- The code looks at its settings as it goes; here they stand in one value.
use Rattle.std.specs.Prelude.{◌≡◌, ℕ, true, List}
use Rattle.std.specs.List.{list_all}
use Rattle.beep_chars.specs.Characters.{is_allowed}
use Rattle.beep_decide.specs.Decide.{PlainOffer}
use Rattle.beep_lawful.specs.declared.terms.Terms.{Terms}
use Rattle.beep_talk.specs.declared.plan.Command.{Command}

-- what an end is to do, with which role and limits, which profiles it offers, which URI the profile
-- RAW has, and the lines that it is to send
pub record PlainPlan : Type 0 where
  pub command : Command
  pub terms : Terms
  pub offers : List PlainOffer
  pub raw_uri : List ℕ
  pub lines : List (List ℕ)

-- each URI has characters that an element may hold
pub record HasAllowedUris (plan : PlainPlan) : Type 0 where
  pub raw : list_all is_allowed plan.raw_uri ≡ true
  pub offered : list_all (λ offer. list_all is_allowed offer.uri) plan.offers ≡ true
