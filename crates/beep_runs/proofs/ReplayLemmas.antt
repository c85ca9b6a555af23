-- The log of a link is replayed to what it shows.
use Rattle.std.proofs.Common.{◌≡◌, inl, inr, ℕ, List, [], ◌∷◌, Option, None, Some, refl, sym, ap, ◌∙◌, subst, arith}
use Rattle.beep_listener.specs.beep_frame.specs.declared.rule.Rule.{Rule}
use Rattle.beep_listener.specs.beep_frame.specs.Modulo.{modulo_2_64}
use Rattle.beep_listener.specs.beep_history.specs.declared.journal.Side.{Side}
use Rattle.beep_listener.specs.beep_journal.specs.Log.{Moment, flat, got_all, put_all, none, over}
use Rattle.beep_listener.specs.beep_journal.specs.Broken.{none_tunes}
use Rattle.beep_listener.specs.beep_journal.specs.Journal.{Past, Fault, Shows as shown}
use Rattle.beep_listener.specs.beep_journal.proofs.ShownLemmas.{one-shown}
use Rattle.beep_listener.specs.beep_lawful.specs.declared.terms.Terms.{Terms}
use Rattle.beep_listener.specs.beep_wires.specs.Log.{Entry, read, wrote, quiet, ended}
use Rattle.beep_recorder.specs.beep_record.specs.declared.verdict.Verdict.{Verdict}
use Rattle.beep_recorder.specs.beep_record.specs.Verdicts.{verdict_on, verdict_of, Replays}
use Rattle.beep_recorder.specs.Said.{log_said}
use Rattle.beep_listener.specs.beep_logged.specs.Logged.{IsSound}
use Rattle.beep_listener.specs.beep_link.specs.declared.ended.Ended.{Ended}
use Rattle.beep_listener.specs.beep_link.specs.Causes.{octets_read}
use Rattle.beep_listener.specs.beep_steps.specs.Logs.{moments, IsLawfulOn, Shows, ShowsFault, StopsInRead}
use Rattle.beep_runs.specs.Replayed.{IsUnwritten, IsFineBefore, IsReplayedTo}
use Rattle.beep_runs.proofs.GotLemmas.{gots, gots-got_all, gots-put_all, in-read, knows}

pub moments-flat : (log : List Entry) → moments log ≡ flat (log_said log)
moments-flat [] = refl
moments-flat (read octets ∷ log) = ap (got_all octets) (moments-flat log)
moments-flat (wrote octets ∷ log) = ap (put_all octets) (moments-flat log)
moments-flat (quiet ∷ log) = ap (λ (l : List Moment). none ∷ l) (moments-flat log)
moments-flat (ended ∷ log) = ap (λ (l : List Moment). over ∷ l) (moments-flat log)

gots-moments : (log : List Entry) → gots (moments log) ≡ octets_read log
gots-moments [] = refl
gots-moments (read octets ∷ log) = omega (arith, gots-got_all octets (moments log), gots-moments log)
gots-moments (wrote octets ∷ log) = gots-put_all octets (moments log) ∙ gots-moments log
gots-moments (quiet ∷ log) = gots-moments log
gots-moments (ended ∷ log) = gots-moments log

-- a fault of the side that was read isn't one of what was written
not-written : (o : Option Fault) → ((fault : Fault) → o ≡ Some fault → fault.side ≡ Side.Received) → IsUnwritten (verdict_of o)
not-written None of = tt
not-written (Some fault) of = subst (λ (side : Side). IsUnwritten (verdict_on side fault.rule (modulo_2_64 fault.place))) (sym (of fault refl)) tt

fine-of : (o : Option Fault) → o ≡ None → verdict_of o ≡ Verdict.Fine
fine-of None e = refl
fine-of (Some fault) e = cc

module _ (terms : Terms) (log : List Entry) (verdict : Verdict) (old new : List ℕ) (r : Replays (log_said log) verdict old new) where
  shows : shown none_tunes (moments log) r.past
  shows = subst (λ (l : List Moment). shown none_tunes l r.past) (sym (moments-flat log)) r.shows

  pub never-written : IsLawfulOn terms log → IsUnwritten verdict
  never-written lawful = subst IsUnwritten (sym r.verdict_is) (not-written r.past.fault (λ fault e. lawful.faultless r.past fault shows e))

  same : (past : Past) → shown none_tunes (moments log) past → r.past ≡ past
  same past s = one-shown none_tunes (moments log) r.past past shows s

  pub sound-fine : IsSound terms (moments log) → verdict ≡ Verdict.Fine
  sound-fine sound = r.verdict_is ∙ fine-of r.past.fault (ap (λ (p : Past). p.fault) (same sound.past sound.shows) ∙ sound.going)

  pub fault-shown : (rule : Rule) (place : ℕ) → ShowsFault terms rule place (moments log) → verdict ≡ Verdict.Broken rule place
  fault-shown rule place f =
      r.verdict_is ∙ ap verdict_of (ap (λ (p : Past). p.fault) (same f.broken.past f.broken.shows) ∙ f.broken.fault_is) ∙ ap (λ (n : ℕ). Verdict.Broken rule n) (sym f.place_is)

-- where a session stopped in a read, a rule was broken in it or not at all
module _ (terms : Terms) (octets : List ℕ) (log : List Entry) (verdict : Verdict) (old new : List ℕ) (r : Replays (log_said (read octets ∷ log)) verdict old new)
    (sound : IsSound terms (moments log)) (lawful : IsLawfulOn terms (read octets ∷ log)) where
  last-read : (o : Option Fault) → r.past.fault ≡ o → IsFineBefore (read octets ∷ log) (verdict_of o)
  last-read None e = tt
  last-read (Some fault) e =
      let s = shows terms (read octets ∷ log) verdict old new r in
      let counted = gots-moments log in
      let k = knows (moments log) sound.past sound.lawful.moments sound.shows sound.going in
      let at = in-read octets (moments log) sound.past r.past k sound.shows sound.going s fault e in
      let it : IsFineBefore (read octets ∷ log) (Verdict.Broken fault.rule (modulo_2_64 fault.place)) = (fault.place, refl, omega (arith, at.0, counted), omega (arith, at.1, counted)) in
      subst (λ (side : Side). IsFineBefore (read octets ∷ log) (verdict_on side fault.rule (modulo_2_64 fault.place))) (sym (lawful.faultless r.past fault s e)) it

  in-last-read : IsFineBefore (read octets ∷ log) verdict
  in-last-read = subst (IsFineBefore (read octets ∷ log)) (sym r.verdict_is) (last-read r.past.fault refl)

stopped-fine : (terms : Terms) (log : List Entry) (verdict : Verdict) (old new : List ℕ) → Replays (log_said log) verdict old new → StopsInRead terms log → IsFineBefore log verdict
stopped-fine terms [] verdict old new r s = absurd s
stopped-fine terms (read octets ∷ log) verdict old new r s = in-last-read terms octets log verdict old new r s.0 s.1
stopped-fine terms (wrote octets ∷ log) verdict old new r s = absurd s
stopped-fine terms (quiet ∷ log) verdict old new r s = absurd s
stopped-fine terms (ended ∷ log) verdict old new r s = absurd s

pub replayed : (terms : Terms) (cause : Ended) (log : List Entry) (verdict : Verdict) (old new : List ℕ) → Shows terms cause log → Replays (log_said log) verdict old new
    → IsReplayedTo cause log verdict
replayed terms Ended.Released log verdict old new s r = sound-fine terms log verdict old new r s.sound
replayed terms (Ended.Broken rule place) log verdict old new s r = fault-shown terms log verdict old new r rule place s.0
replayed terms Ended.WriteFault log verdict old new s r = stopped-fine terms log verdict old new r s
replayed terms Ended.WireFault log verdict old new s r = sound-fine terms log verdict old new r s
replayed terms Ended.NoMemory log verdict old new s r = elim s as (λ _. IsFineBefore log verdict) [
  | inl sound ↦ subst (IsFineBefore log) (sym (sound-fine terms log verdict old new r sound)) tt
  | inr stops ↦ stopped-fine terms log verdict old new r stops
]
replayed terms (Ended.Refused code) log verdict old new s r = stopped-fine terms log verdict old new r s.0
replayed terms (Ended.Cut left) log verdict old new s r = sound-fine terms log verdict old new r s.sound
replayed terms (Ended.Idle reads) log verdict old new s r = sound-fine terms log verdict old new r s.sound
replayed terms (Ended.Spent octets) log verdict old new s r = sound-fine terms log verdict old new r s.sound
