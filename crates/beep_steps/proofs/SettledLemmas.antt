-- What is settled ends an end where it refuses it, and else leaves it one that nothing refused.
use Rattle.std.proofs.Common.{◌≡◌, ℕ, Bool, false, List, [], None, refl, sym, ap, ◌∙◌, subst}
use Rattle.beep_session.specs.beep_journal.specs.Journal.{Past}
use Rattle.beep_session.specs.beep_journal.specs.Log.{Moment, got_all}
use Rattle.beep_session.specs.beep_lawful.specs.declared.terms.Terms.{Terms}
use Rattle.beep_session.specs.beep_answering.specs.declared.settled.Settled.{Settled}
use Rattle.beep_desk.specs.beep_talk.specs.declared.plan.Command.{Command}
use Rattle.beep_desk.specs.beep_script.specs.Refused.{refusal}
use Rattle.beep_link.specs.declared.ended.Stop.{Stop}
use Rattle.beep_steps.specs.Logs.{command_of}
use Rattle.beep_steps.specs.Refusing.{refused_so, IsUnrefused, RefusesOn, RefusesWith, SettlesSo, Unrefused}
use Rattle.beep_steps.proofs.RefusesLemmas.{refused-then}

module _ (command : Command) (closing : Bool) (settled : Settled) (log : List Moment) (k : SettlesSo command closing settled log) where
  pub settled-on : refused_so command closing settled ≡ None → IsUnrefused command closing log
  settled-on none past shows = record { none = (k past shows).refusal_is ∙ none; closing_is = (k past shows).closing_is }

  pub settled-stops : (terms : Terms) → command_of terms.role ≡ command → (octets : List ℕ) (stop : Stop) → RefusesWith (refused_so command closing settled) stop
      → RefusesOn terms stop (got_all octets log)
  settled-stops terms same octets Stop.Released r = absurd r
  settled-stops terms same octets (Stop.Broken rule place) r = absurd r
  settled-stops terms same octets Stop.WriteFault r = tt
  settled-stops terms same octets Stop.NoMemory r = tt
  settled-stops terms same octets (Stop.Refused code) r =
      refused-then terms code octets log (λ past shows. ap (λ (c : Command). refusal c past.journal) same ∙ (k past shows).refusal_is ∙ r)

-- before the first octet nothing was refused
pub first-unrefused : (command : Command) → IsUnrefused command false []
first-unrefused command past shows =
    subst (λ (p : Past). Unrefused command false p.journal) (sym shows) (record { none = refl; closing_is = λ is. refl })
