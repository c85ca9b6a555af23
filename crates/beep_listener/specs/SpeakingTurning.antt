-- What the turns over a link want of what a listener stands for that keeps its script.
-- These are proofs, since the members of an impl cite nothing else of its crate.
use Rattle.std.specs.Prelude.{◌≡◌, ℕ, false, List, [], ◌∷◌, ◌++◌}
use Rattle.std.proofs.Common.{subst}
use Rattle.beep_steps.specs.beep_journal.specs.Log.{Moment, put_all}
use Rattle.beep_steps.specs.beep_session.specs.Session.{Held}
use Rattle.beep_steps.specs.beep_session.specs.Lawfully.{terms_of}
use Rattle.beep_steps.specs.beep_logged.specs.Logged.{IsLogged}
use Rattle.beep_steps.specs.beep_logged.proofs.EndLemmas.{put-append}
use Rattle.beep_steps.specs.beep_logged.proofs.ReadLemmas.{quiet-logged, over-logged}
use Rattle.beep_steps.specs.beep_peer.specs.Peering.{is_over}
use Rattle.beep_steps.specs.beep_talk.specs.Plan.{PlainPlan}
use Rattle.beep_lines.specs.declared.bodies.Body.{Body}
use Rattle.beep_steps.specs.beep_wires.specs.Log.{Entry, wrote, quiet, ended}
use Rattle.beep_steps.specs.beep_link.specs.Causes.{IsOfFaults, IsOfReads}
use Rattle.beep_steps.specs.beep_link.specs.declared.ended.Ended.{Ended}
use Rattle.beep_steps.specs.beep_served.proofs.ProfileLemmas.{have-profile}
use Rattle.beep_steps.specs.beep_script.specs.Prompt.{IsIdle}
use Rattle.beep_steps.specs.Logs.{moments}
use Rattle.beep_steps.specs.Turning.{faults_idle, reads_idle, shown_on}
use Rattle.beep_steps.specs.Desking.{DesksOn, ShowsSaidZero}
use Rattle.beep_steps.specs.Resting.{IsAwake, TellsIdle}
use Rattle.beep_steps.specs.Speaking.{Notes, SpeaksOn, ShowsSaid}
use Rattle.beep_steps.proofs.PartLemmas.{none-waits}
use Rattle.beep_steps.proofs.SpeakListed.{rests-idle}
use Rattle.beep_steps.proofs.ServeLemmas.{shows-served}
use Rattle.beep_steps.proofs.SpeakCalls.{serving-at}
use Rattle.beep_steps.proofs.DeskSaid.{said-goes}
use Rattle.beep_steps.proofs.SpeakShown.{shows-goes}
use Rattle.beep_listener.specs.Listening.{plan_of, KeepsWhere, ListensServed, TellsServed, WritesAtLeast}
use Rattle.beep_listener.specs.Speaking.{RestsOn, SpeaksAll}
use Rattle.beep_listener.specs.Turning.{closes_served, quiets_served, spends_keeping, spends_served, stops_keeping, stops_served, writes_served}

-- a listener stands for what a log shows, and keeps its script
abbrev pub ListensScripted : Held → List Body → List ℕ → Notes → List Moment → List ℕ → Type 0
ListensScripted session bodies buffer notes log text =
    ListensServed session bodies buffer log text
    × SpeaksAll (plan_of session) notes session log

-- what the log of a link shows of a listener that ended so, what it wrote and said, and which lines
-- are surely written
abbrev pub TellsScripted : PlainPlan → Ended → List Entry → List ℕ → Type 0
TellsScripted plan cause log text = TellsServed plan cause log text
    × (ShowsSaid plan (moments log) × ShowsSaidZero plan (moments log))
    × TellsIdle plan cause (moments log) × KeepsWhere (WritesAtLeast plan text) cause log

module _ (session : Held) (bodies : List Body) (buffer : List ℕ) (notes : Notes) where
  pub writes_scripted : (log : List Entry) (front octets text : List ℕ)
      → ListensScripted session bodies buffer notes (put_all (front ++ octets) (moments log)) text
      → ListensScripted session bodies buffer notes (put_all octets (moments (wrote front ∷ log)))
      text
  writes_scripted log front octets text s = (
    writes_served session bodies buffer log front octets text s.0,
    subst (SpeaksAll (plan_of session) notes session) (put-append front octets (moments log)) s.1,
  )

  -- the same journal is shown by another log
  shown_scripted : (old new : List Moment) (s : SpeaksOn (plan_of session) notes session old)
      → IsLogged (terms_of session) s.on.rest s.on.journal new
      → SpeaksOn (plan_of session) notes session new
  shown_scripted old new s l = record {
    listens = s.listens;
    on = shown_on session old new s.on l;
    scripts = s.scripts;
    noted = s.noted;
  }

  shown_desk : (old new : List Moment) (d : DesksOn (plan_of session) session old)
      → IsLogged (terms_of session) d.on.rest d.on.journal new
      → DesksOn (plan_of session) session new
  shown_desk old new d l = record {
    plan_is = d.plan_is;
    on = shown_on session old new d.on l;
    meets = d.meets;
    listed = d.listed;
    placed = d.placed;
    desk = d.desk;
    stuck = d.stuck;
  }

  pub quiets_scripted : (log : List Entry) (text : List ℕ)
      → ListensScripted session bodies buffer notes (moments log) text
      → ListensScripted session bodies buffer notes (moments (quiet ∷ log)) text
  quiets_scripted log text s = (
    quiets_served session bodies buffer log text s.0,
    (
      shown_scripted (moments log) (moments (quiet ∷ log)) s.1.0 (quiet-logged (terms_of session)
          s.1.0.on.rest s.1.0.on.journal (moments log) s.1.0.on.logged),
      shown_desk (moments log) (moments (quiet ∷ log)) s.1.1 (quiet-logged (terms_of session)
          s.1.1.on.rest s.1.1.on.journal (moments log) s.1.1.on.logged),
    ),
  )

  pub closes_scripted : (log : List Entry) (text : List ℕ)
      → ListensScripted session bodies buffer notes (moments log) text
      → ListensScripted session bodies buffer notes (moments (ended ∷ log)) text
  closes_scripted log text s = (
    closes_served session bodies buffer log text s.0,
    (
      shown_scripted (moments log) (moments (ended ∷ log)) s.1.0 (over-logged (terms_of session)
          s.1.0.on.rest s.1.0.on.journal (moments log) s.1.0.on.logged),
      shown_desk (moments log) (moments (ended ∷ log)) s.1.1 (over-logged (terms_of session)
          s.1.1.on.rest s.1.1.on.journal (moments log) s.1.1.on.logged),
    ),
  )

  pub stops_scripted : (log : List Entry) (octets text : List ℕ)
      → ListensScripted session bodies buffer notes (put_all octets (moments log)) text
      → (cause : Ended) → IsOfFaults cause → TellsScripted (plan_of session) cause log text
  stops_scripted log octets text s cause is = (
    stops_served session bodies buffer log octets text s.0 cause is,
    (
      shows-goes (plan_of session) notes session octets (moments log) s.1.0,
      said-goes (plan_of session) session octets (moments log) s.1.1.on s.1.1.listed,
    ),
    faults_idle (plan_of session) cause (moments log) is,
    stops_keeping session bodies buffer log octets text s.0 cause is,
  )

  -- where it rests nothing of its script is due
  idle_on : (log : List Entry) (text : List ℕ)
      → ListensScripted session bodies buffer notes (moments log) text
      → is_over session.peer ≡ false → RestsOn notes session
      → IsIdle (plan_of session) (moments log)
  idle_on log text s going rests =
      let plan = plan_of session in
      let awake : IsAwake session = record {
        going = going;
        settled = none-waits session (moments log) s.1.0.on;
      } in
      rests-idle plan notes session (moments log) s.1.0 s.1.1 s.0.0.listens.taken
      (have-profile plan.raw_uri s.1.0.on.journal (serving-at plan session (moments log)
      (shows-served plan session [] (moments log) s.0.1) s.1.0.on))
      (λ i. session.limits.window) (rests.0 awake) (rests.1 awake)

  pub spends_scripted : (log : List Entry) (text : List ℕ)
      → ListensScripted session bodies buffer notes (moments log) text
      → (cause : Ended) → IsOfReads cause → is_over session.peer ≡ false
      → RestsOn notes session → TellsScripted (plan_of session) cause log text
  spends_scripted log text s cause is going rests = (
    spends_served session bodies buffer log text s.0 cause is going,
    (
      shows-goes (plan_of session) notes session [] (moments log) s.1.0,
      said-goes (plan_of session) session [] (moments log) s.1.1.on s.1.1.listed,
    ),
    reads_idle (plan_of session) cause (moments log) is (idle_on log text s going rests),
    spends_keeping session bodies buffer log text cause is,
  )
