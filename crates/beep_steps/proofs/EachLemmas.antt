-- What is known of the log of a link makes a whole end.
use Rattle.std.proofs.Common.{◌≡◌, ◌∙◌, refl, sym, ap, subst, ℕ, Bool, true, false, not, ◌&&◌, ◌||◌, ◌⊎◌, ⊎_elim, List, [], ◌∷◌, ◌++◌, Option, None, Some, append_assoc}
use Rattle.std.specs.Prelude.{IsTrue, is_none}
use Rattle.beep_session.specs.beep_frame.specs.declared.rule.Rule.{Rule}
use Rattle.beep_session.specs.beep_journal.specs.Broken.{none_tunes}
use Rattle.beep_session.specs.beep_journal.specs.Journal.{Fault, Past, Shows as ShowsPast, goes_on}
use Rattle.beep_session.specs.beep_journal.specs.Life.{is_released}
use Rattle.beep_session.specs.beep_journal.specs.Log.{Moment, got, put, none, over, flat, got_all, put_all}
use Rattle.beep_session.specs.beep_journal.specs.Zero.{zero_history}
use Rattle.beep_session.specs.beep_journal.proofs.ShownLemmas.{one-shown}
use Rattle.beep_session.specs.beep_lawful.specs.Lawful.{IsLawfulLog}
use Rattle.beep_session.specs.beep_lawful.specs.Tuned.{has_tuned}
use Rattle.beep_session.specs.beep_lawful.specs.declared.terms.Terms.{Terms}
use Rattle.beep_desk.specs.beep_talk.specs.Plan.{PlainPlan}
use Rattle.beep_desk.specs.beep_script.specs.EachEnd.{GoesOn, NamesFault, Stops, WritesGoing}
use Rattle.beep_desk.specs.beep_script.specs.Prompt.{IsIdle, IsPrompt, is_over}
use Rattle.beep_link.specs.beep_wires.specs.Log.{Entry, read, wrote, quiet, ended}
use Rattle.beep_link.specs.Causes.{WhereKnown}
use Rattle.beep_link.specs.declared.ended.Ended.{Ended}
use Rattle.beep_steps.specs.EachEnd.{EachEndOn, broken_by, log_of}
use Rattle.beep_steps.specs.Logs.{IsLawfulOn, Shows, ShowsFault, ShowsGoing, moments}
use Rattle.beep_steps.specs.Refusing.{ReadsOnlyGoing}
use Rattle.beep_steps.specs.Resting.{IsPromptOn}
use Rattle.beep_steps.specs.Scripting.{KeepsWholeOn}

-- ---- the flat log

pub flat-of : (log : List Entry) → flat (log_of log) ≡ moments log
flat-of [] = refl
flat-of (read octets ∷ log) = ap (got_all octets) (flat-of log)
flat-of (wrote octets ∷ log) = ap (put_all octets) (flat-of log)
flat-of (quiet ∷ log) = ap (λ (ms : List Moment). none ∷ ms) (flat-of log)
flat-of (ended ∷ log) = ap (λ (ms : List Moment). over ∷ ms) (flat-of log)

-- these moments come after those
record After (before after : List Moment) : Type 0 where
  later : List Moment
  is : after ≡ later ++ before

after-one : (moment : Moment) (before after : List Moment) → After (moment ∷ before) after → After before after
after-one moment before after a = record { later = a.later ++ moment ∷ []; is = a.is ∙ sym (append_assoc a.later (moment ∷ []) before) }

gots-after : (octets : List ℕ) (log after : List Moment) → After (got_all octets log) after → After log after
gots-after [] log after a = a
gots-after (octet ∷ octets) log after a = after-one (got octet) log after (gots-after octets (got octet ∷ log) after a)

puts-after : (octets : List ℕ) (log after : List Moment) → After (put_all octets log) after → After log after
puts-after [] log after a = a
puts-after (octet ∷ octets) log after a = after-one (put octet) log after (puts-after octets (put octet ∷ log) after a)

-- ---- while the session goes on

not-over : (going released tuned : Bool) → IsTrue (going && not (released || tuned)) → (not going || released) ≡ false
not-over true false tuned h = refl
not-over true true tuned h = absurd (let g : false ≡ true = h in cc)
not-over false released tuned h = absurd (let g : false ≡ true = h in cc)

still-going : (past : Past) (fault : Option Fault) → past.fault ≡ fault → fault ≡ None → is_released past.journal ≡ false → is_over past ≡ false
still-going past None is whole released = ap (λ (f : Option Fault). not (is_none f) || is_released past.journal) is ∙ released
still-going past (Some fault) is whole released = absurd (let g : Some fault ≡ None = whole in cc)

reads-going : (terms : Terms) (log : List Entry) → ShowsGoing terms (moments log) → GoesOn (flat (log_of log))
reads-going terms log g = subst GoesOn (sym (flat-of log)) going
  where
    going : GoesOn (moments log)
    going past shows =
        ap is_over (one-shown none_tunes (moments log) past g.sound.past shows g.sound.shows) ∙ still-going g.sound.past g.sound.past.fault refl g.sound.going g.unreleased

module _ (terms : Terms) (whole : List Moment) (lawful : IsLawfulLog terms none_tunes whole) where
  -- an octet that is written
  put-going : (octet : ℕ) (log : List Moment) → After (put octet ∷ log) whole → GoesOn log
  put-going octet log a past shows =
      not-over (goes_on past) (is_released past.journal) (has_tuned none_tunes (zero_history past.journal)) (lawful.moments a.later log (put octet) past a.is shows)

  puts-going : (octets : List ℕ) (log : List Moment) → After (put_all octets log) whole → WritesGoing octets log
  puts-going [] log a = tt
  puts-going (octet ∷ octets) log a = (put-going octet log (puts-after octets (put octet ∷ log) whole a), puts-going octets (put octet ∷ log) a)

  stops-after : (log : List Entry) → After (moments log) whole → ReadsOnlyGoing terms log → Stops (log_of log)
  stops-after [] a r = tt
  stops-after (read octets ∷ log) a r = (reads-going terms log r.0.going, stops-after log (gots-after octets (moments log) whole a) r.1)
  stops-after (wrote octets ∷ log) a r =
      (subst (WritesGoing octets) (sym (flat-of log)) (puts-going octets (moments log) a), stops-after log (puts-after octets (moments log) whole a) r)
  stops-after (quiet ∷ log) a r = (reads-going terms log r.0.going, stops-after log (after-one none (moments log) whole a) r.1)
  stops-after (ended ∷ log) a r = (reads-going terms log r.0.going, stops-after log (after-one over (moments log) whole a) r.1)

-- ---- what was due

prompt-of : (plan : PlainPlan) (log : List Entry) → IsPromptOn plan log → IsPrompt plan (log_of log)
prompt-of plan [] p = tt
prompt-of plan (read octets ∷ log) p = (subst (IsIdle plan) (sym (flat-of log)) p.0, prompt-of plan log p.1)
prompt-of plan (wrote octets ∷ log) p = prompt-of plan log p
prompt-of plan (quiet ∷ log) p = (subst (IsIdle plan) (sym (flat-of log)) p.0, prompt-of plan log p.1)
prompt-of plan (ended ∷ log) p = (subst (IsIdle plan) (sym (flat-of log)) p.0, prompt-of plan log p.1)

-- ---- the rule that is named

fault-named : (terms : Terms) (rule : Rule) (place : ℕ) (log : List Moment) → ShowsFault terms rule place log → NamesFault (Some (rule, place)) log
fault-named terms rule place log f past shows =
    (f.octet, f.place_is, ap (λ (p : Past). p.fault) (one-shown none_tunes log past f.broken.past shows f.broken.shows) ∙ f.broken.fault_is)

names-of : (terms : Terms) (cause : Ended) (log : List Entry) → Shows terms cause log → NamesFault (broken_by cause) (moments log)
names-of terms Ended.Released log s = tt
names-of terms (Ended.Broken rule place) log s = fault-named terms rule place (moments log) s.0
names-of terms Ended.WriteFault log s = tt
names-of terms Ended.WireFault log s = tt
names-of terms Ended.NoMemory log s = tt
names-of terms (Ended.Refused code) log s = tt
names-of terms (Ended.Cut left) log s = tt
names-of terms (Ended.Idle count) log s = tt
names-of terms (Ended.Spent count) log s = tt

-- ---- a whole end

pub each-end : (plan : PlainPlan) (cause : Ended) (log : List Entry) → IsLawfulOn plan.terms log → KeepsWholeOn plan log → IsPromptOn plan log → ReadsOnlyGoing plan.terms log → Shows plan.terms cause log
    → EachEndOn plan cause log
each-end plan cause log lawful script prompt going shows =
    let same = sym (flat-of log) in
    record {
      lawful = subst (IsLawfulLog plan.terms none_tunes) same lawful;
      script = λ past s. script past (subst (λ (ms : List Moment). ShowsPast none_tunes ms past) (flat-of log) s);
      prompt = prompt-of plan log prompt;
      stops = stops-after plan.terms (moments log) lawful log (record { later = []; is = refl }) going;
      names = subst (NamesFault (broken_by cause)) same (names-of plan.terms cause log shows);
    }

-- where the log is known
pub each-known : (plan : PlainPlan) (cause : Ended) (log : Option (List Entry)) → WhereKnown (IsLawfulOn plan.terms) log → WhereKnown (KeepsWholeOn plan) log → WhereKnown (IsPromptOn plan) log
    → WhereKnown (ReadsOnlyGoing plan.terms) log → WhereKnown (Shows plan.terms cause) log → WhereKnown (EachEndOn plan cause) log
each-known plan cause None lawful script prompt going shows = tt
each-known plan cause (Some log) lawful script prompt going shows = each-end plan cause log lawful script prompt going shows

-- an end that names no rule names none falsely
unnamed : (plan : PlainPlan) (cause : Ended) (log : Option (List Entry)) → WhereKnown (EachEndOn plan cause) log → WhereKnown (EachEndOn plan Ended.NoMemory) log
unnamed plan cause None e = tt
unnamed plan cause (Some log) e = record { lawful = e.lawful; script = e.script; prompt = e.prompt; stops = e.stops; names = tt }

-- what ends a run is what ended its session, or that it is out of memory
pub each-then : (plan : PlainPlan) (cause result : Ended) (log : Option (List Entry)) → WhereKnown (EachEndOn plan cause) log → (result ≡ cause) ⊎ (result ≡ Ended.NoMemory)
    → WhereKnown (EachEndOn plan result) log
each-then plan cause result log e =
    ⊎_elim (λ same. subst (λ (c : Ended). WhereKnown (EachEndOn plan c) log) (sym same) e)
    (λ short. subst (λ (c : Ended). WhereKnown (EachEndOn plan c) log) (sym short) (unnamed plan cause log e))
