-- What the turns over a link want of a sender that kept its script, channel zero among its channels
-- (RFC 3081, section 2).
-- These are proofs, since the members of an impl cite nothing else of its crate.
use Rattle.std.specs.Prelude.{◌≡◌, Bool, false, List, [], ◌∷◌, ◌++◌, ℕ}
use Rattle.std.proofs.Common.{subst}
use Rattle.beep_steps.specs.beep_journal.specs.Log.{Moment, put_all}
use Rattle.beep_steps.specs.beep_peer.specs.Peering.{is_over}
use Rattle.beep_steps.specs.beep_session.specs.Session.{Held}
use Rattle.beep_steps.specs.beep_session.specs.Lawfully.{terms_of}
use Rattle.beep_steps.specs.beep_logged.proofs.EndLemmas.{put-append}
use Rattle.beep_steps.specs.beep_logged.proofs.ReadLemmas.{quiet-logged, over-logged}
use Rattle.beep_steps.specs.beep_logged.specs.Logged.{IsLogged}
use Rattle.beep_steps.specs.beep_wires.specs.Log.{Entry, wrote, quiet, ended}
use Rattle.beep_steps.specs.beep_link.specs.Causes.{IsOfFaults, IsOfReads}
use Rattle.beep_steps.specs.beep_link.specs.declared.ended.Ended.{Ended}
use Rattle.beep_steps.specs.beep_talk.specs.declared.plan.Command.{Command}
use Rattle.beep_steps.specs.beep_talk.specs.Plan.{PlainPlan}
use Rattle.beep_steps.specs.beep_script.specs.Prompt.{IsIdle}
use Rattle.beep_steps.specs.Desking.{DesksOn, ShowsSaidZero}
use Rattle.beep_steps.specs.Logs.{moments}
use Rattle.beep_steps.specs.Refusing.{IsUnrefused}
use Rattle.beep_steps.specs.Resting.{AreShort, IsAwake, RestsAt, TellsIdle}
use Rattle.beep_steps.specs.Scripting.{ScriptedOn, TellsScripted}
use Rattle.beep_steps.specs.Sending.{Progress}
use Rattle.beep_steps.specs.Turning.{shown_on, stops_sending, spends_sending}
use Rattle.beep_steps.proofs.DeskSaid.{said-goes}
use Rattle.beep_steps.proofs.EndScripts.{goes-script}
use Rattle.beep_steps.proofs.PartLemmas.{none-waits}
use Rattle.beep_steps.proofs.SendRests.{sender-idle}
use Rattle.beep_sender.specs.Asking.{AsksOn}

-- what the log of a link shows of a sender that ended so, what it said on channel zero, and of
-- lines that are short that nothing was due where the settings stopped it
abbrev pub TellsAsking : PlainPlan → Ended → List Entry → Type 0
TellsAsking plan cause log = TellsScripted plan cause log × ShowsSaidZero plan (moments log)
    × (AreShort plan.lines → TellsIdle plan cause (moments log))

module _ (plan : PlainPlan) (progress : Progress) (session : Held) where
  pub writes_scripting : (log : List Entry) (front octets : List ℕ)
      → ScriptedOn plan progress session (put_all (front ++ octets) (moments log))
      → ScriptedOn plan progress session (put_all octets (moments (wrote front ∷ log)))
  writes_scripting log front octets s =
      subst (ScriptedOn plan progress session) (put-append front octets (moments log)) s

  -- the same journal is shown by another log
  shown_scripting : (old new : List Moment) (s : ScriptedOn plan progress session old)
      → IsLogged (terms_of session) s.sends.on.rest s.sends.on.journal new
      → ScriptedOn plan progress session new
  shown_scripting old new s l = record {
    sends = record {
      sender = s.sends.sender;
      on = shown_on session old new s.sends.on l;
      sends = s.sends.sends;
    };
    scripts = s.scripts;
  }

  pub quiets_scripting : (log : List Entry) → ScriptedOn plan progress session (moments log)
      → ScriptedOn plan progress session (moments (quiet ∷ log))
  quiets_scripting log s = shown_scripting (moments log) (moments (quiet ∷ log)) s
      (quiet-logged (terms_of session) s.sends.on.rest s.sends.on.journal (moments log)
      s.sends.on.logged)

  pub closes_scripting : (log : List Entry) → ScriptedOn plan progress session (moments log)
      → ScriptedOn plan progress session (moments (ended ∷ log))
  closes_scripting log s = shown_scripting (moments log) (moments (ended ∷ log)) s
      (over-logged (terms_of session) s.sends.on.rest s.sends.on.journal (moments log)
      s.sends.on.logged)

  pub stops_scripting : terms_of session ≡ plan.terms → (log : List Entry) (octets : List ℕ)
      (cause : Ended) → IsOfFaults cause
      → ScriptedOn plan progress session (put_all octets (moments log)) → (closing : Bool)
      → IsUnrefused Command.Send closing (put_all octets (moments log))
      → TellsScripted plan cause log
  stops_scripting same log octets cause is s closing u = record {
    tells = stops_sending plan progress session same log octets cause is s.sends closing u;
    script = goes-script plan progress session octets (moments log) s;
  }

  pub spends_scripting : terms_of session ≡ plan.terms → (log : List Entry) (cause : Ended)
      → IsOfReads cause → is_over session.peer ≡ false
      → ScriptedOn plan progress session (moments log) → (closing : Bool)
      → IsUnrefused Command.Send closing (moments log) → TellsScripted plan cause log
  spends_scripting same log cause is going s closing u = record {
    tells = spends_sending plan progress session same log cause is going s.sends closing u;
    script = goes-script plan progress session [] (moments log) s;
  }

-- ---- channel zero

module _ (plan : PlainPlan) (session : Held) where
  pub writes_asking : (log : List Entry) (front octets : List ℕ)
      → AsksOn plan session (put_all (front ++ octets) (moments log))
      → AsksOn plan session (put_all octets (moments (wrote front ∷ log)))
  writes_asking log front octets a =
      (subst (DesksOn plan session) (put-append front octets (moments log)) a.0, a.1)

  -- the same journal is shown by another log
  shown_asking : (old new : List Moment) (a : AsksOn plan session old)
      → IsLogged (terms_of session) a.0.on.rest a.0.on.journal new → AsksOn plan session new
  shown_asking old new a l = (
    record {
      plan_is = a.0.plan_is;
      on = shown_on session old new a.0.on l;
      meets = a.0.meets;
      listed = a.0.listed;
      placed = a.0.placed;
      desk = a.0.desk;
      stuck = a.0.stuck;
    },
    a.1,
  )

  pub quiets_asking : (log : List Entry) → AsksOn plan session (moments log)
      → AsksOn plan session (moments (quiet ∷ log))
  quiets_asking log a = shown_asking (moments log) (moments (quiet ∷ log)) a
      (quiet-logged (terms_of session) a.0.on.rest a.0.on.journal (moments log) a.0.on.logged)

  pub closes_asking : (log : List Entry) → AsksOn plan session (moments log)
      → AsksOn plan session (moments (ended ∷ log))
  closes_asking log a = shown_asking (moments log) (moments (ended ∷ log)) a
      (over-logged (terms_of session) a.0.on.rest a.0.on.journal (moments log) a.0.on.logged)

  -- whatever of what is to be written was written
  pub ends_asking : (log : List Entry) (octets : List ℕ)
      → AsksOn plan session (put_all octets (moments log)) → ShowsSaidZero plan (moments log)
  ends_asking log octets a = said-goes plan session octets (moments log) a.0.on a.0.listed

  -- where it rests nothing of its script is due
  pub idle_asking : (progress : Progress) (log : List Entry)
      → ScriptedOn plan progress session (moments log) → AsksOn plan session (moments log)
      → plan.offers ≡ [] → plan.terms.window ≡ session.limits.window
      → is_over session.peer ≡ false → RestsAt 1 session → IsIdle plan (moments log)
  idle_asking progress log s a offers window going rests =
      let awake : IsAwake session = record {
        going = going;
        settled = none-waits session (moments log) a.0.on;
      } in
      let r = rests awake in
      sender-idle plan progress session (moments log) s a.0 a.1 offers window r.0 r.1
