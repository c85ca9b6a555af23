-- What the turns over a link want of what an end stands for (RFC 3081, section 2).
-- These are proofs, since the members of an impl cite nothing else of its crate.
use Rattle.std.specs.Prelude.{◌≡◌, ℕ, Bool, true, false, ◌||◌, is_some, List, ◌∷◌, ◌++◌, Option, None, Some}
use Rattle.std.proofs.Common.{refl, sym, ap, ◌∙◌, subst, inl}
use Rattle.beep_session.specs.beep_history.specs.Journal.{Item}
use Rattle.beep_session.specs.beep_journal.specs.declared.role.Role.{Role}
use Rattle.beep_session.specs.beep_journal.specs.Broken.{none_tunes}
use Rattle.beep_session.specs.beep_journal.specs.Journal.{Past, Shows as ShowsPast}
use Rattle.beep_session.specs.beep_journal.specs.Life.{is_released}
use Rattle.beep_session.specs.beep_journal.specs.Log.{Moment, put_all, none}
use Rattle.beep_session.specs.beep_peer.specs.Peering.{is_over}
use Rattle.beep_session.specs.Session.{Held}
use Rattle.beep_session.specs.Lawfully.{terms_of}
use Rattle.beep_logged.proofs.EndLemmas.{put-append, sound-of, sound-puts}
use Rattle.beep_logged.proofs.ReadLemmas.{quiet-logged, over-logged}
use Rattle.beep_logged.specs.Logged.{IsLogged, IsSound}
use Rattle.beep_link.specs.beep_wires.specs.Log.{Entry, wrote, quiet, ended}
use Rattle.beep_link.specs.Causes.{IsOfFaults, IsOfReads, ended_by}
use Rattle.beep_link.specs.declared.ended.Ended.{Ended}
use Rattle.beep_link.specs.declared.ended.Stop.{Stop}
use Rattle.beep_session.specs.beep_lawful.specs.declared.terms.Terms.{Terms}
use Rattle.beep_desk.specs.beep_talk.specs.declared.plan.Command.{Command}
use Rattle.beep_desk.specs.beep_talk.specs.Plan.{PlainPlan}
use Rattle.beep_steps.specs.Logs.{moments, command_of, StandsOn, Shows, ShowsGoing}
use Rattle.beep_desk.specs.beep_script.specs.Prompt.{IsIdle}
use Rattle.beep_desk.specs.beep_script.specs.Refused.{first_code, refusal, refused_at}
use Rattle.beep_replies.proofs.LogLemmas.{goes-so}
use Rattle.beep_steps.specs.Resting.{TellsIdle}
use Rattle.beep_steps.specs.Refusing.{GoesUnrefused, IsUnrefused, ShowsNoRefusal, Unrefused}
use Rattle.beep_steps.specs.Sending.{Progress, SendsOn, TellsSent}
use Rattle.beep_steps.specs.Serving.{ServesOn}

-- what is written goes from what is to be written to the log
pub writes_on : (session : Held) (log : List Entry) (front octets : List ℕ)
    → StandsOn session (put_all (front ++ octets) (moments log))
    → StandsOn session (put_all octets (moments (wrote front ∷ log)))
writes_on session log front octets s =
    subst (StandsOn session) (put-append front octets (moments log)) s

-- the same journal is shown by another log
abbrev pub shown_on : (session : Held) (old new : List Moment) (s : StandsOn session old)
    → IsLogged (terms_of session) s.rest s.journal new → StandsOn session new
shown_on session old new s l = record {
  fed = s.fed;
  rest = s.rest;
  journal = s.journal;
  given = s.given;
  taken = s.taken;
  stands = s.stands;
  framed = s.framed;
  logged = l;
}

-- a quiet read, and the end of the link, leave it
pub quiets_on : (session : Held) (log : List Entry) → StandsOn session (moments log)
    → StandsOn session (moments (quiet ∷ log))
quiets_on session log s = shown_on session (moments log) (moments (quiet ∷ log)) s
    (quiet-logged (terms_of session) s.rest s.journal (moments log) s.logged)

pub closes_on : (session : Held) (log : List Entry) → StandsOn session (moments log)
    → StandsOn session (moments (ended ∷ log))
closes_on session log s = shown_on session (moments log) (moments (ended ∷ log)) s
    (over-logged (terms_of session) s.rest s.journal (moments log) s.logged)

-- the log without octets that are still to be written shows no broken rule
sound_on : (session : Held) (log : List Entry) (octets : List ℕ)
    → StandsOn session (put_all octets (moments log)) → IsSound (terms_of session) (moments log)
sound_on session log octets s = sound-puts (terms_of session) octets (moments log)
    (sound-of (terms_of session) s.rest s.journal (put_all octets (moments log)) s.logged)

pub stops_on : (session : Held) (log : List Entry) (octets : List ℕ) (cause : Ended)
    → IsOfFaults cause → StandsOn session (put_all octets (moments log))
    → Shows (terms_of session) cause log
stops_on session log octets Ended.Released is s = absurd is
stops_on session log octets (Ended.Broken rule place) is s = absurd is
stops_on session log octets Ended.WriteFault is s = absurd is
stops_on session log octets Ended.WireFault is s = sound_on session log octets s
stops_on session log octets Ended.NoMemory is s = inl (sound_on session log octets s)
stops_on session log octets (Ended.Refused code) is s = absurd is
stops_on session log octets (Ended.Cut left) is s = absurd is
stops_on session log octets (Ended.Idle count) is s = absurd is
stops_on session log octets (Ended.Spent count) is s = absurd is

-- where the session isn't over the log shows no release
unreleased : (a b : Bool) → (a || b) ≡ false → a ≡ false
unreleased true b e = e
unreleased false b e = refl

going_on : (session : Held) (log : List Entry) → is_over session.peer ≡ false
    → StandsOn session (moments log) → ShowsGoing (terms_of session) (moments log)
going_on session log going s =
    let peer = session.peer in
    let shown = s.logged.shown in
    record {
      sound = record {
        past = shown.past;
        shows = shown.shows;
        going = shown.going;
        lawful = s.logged.lawful;
      };
      whole = shown.whole;
      unreleased = ap is_released shown.journal_is ∙ sym s.stands.stands.released
          ∙ unreleased peer.released (is_some peer.ear.broken) going;
    }

pub spends_on : (session : Held) (log : List Entry) (cause : Ended) → IsOfReads cause
    → is_over session.peer ≡ false → StandsOn session (moments log)
    → Shows (terms_of session) cause log
spends_on session log Ended.Released is going s = absurd is
spends_on session log (Ended.Broken rule place) is going s = absurd is
spends_on session log Ended.WriteFault is going s = absurd is
spends_on session log Ended.WireFault is going s = absurd is
spends_on session log Ended.NoMemory is going s = absurd is
spends_on session log (Ended.Refused code) is going s = absurd is
spends_on session log (Ended.Cut left) is going s = absurd is
spends_on session log (Ended.Idle count) is going s = going_on session log going s
spends_on session log (Ended.Spent count) is going s = going_on session log going s

-- it isn't that of a stop within a read
abbrev pub IsCalm : Ended → Type 0
IsCalm Ended.Released = Unit {0}
IsCalm (Ended.Broken rule place) = ⊥
IsCalm Ended.WriteFault = ⊥
IsCalm Ended.WireFault = Unit {0}
IsCalm Ended.NoMemory = Unit {0}
IsCalm (Ended.Refused code) = ⊥
IsCalm (Ended.Cut left) = Unit {0}
IsCalm (Ended.Idle count) = Unit {0}
IsCalm (Ended.Spent count) = Unit {0}

pub calm_reads : (cause : Ended) → IsOfReads cause → IsCalm cause
calm_reads Ended.Released is = absurd is
calm_reads (Ended.Broken rule place) is = absurd is
calm_reads Ended.WriteFault is = absurd is
calm_reads Ended.WireFault is = absurd is
calm_reads Ended.NoMemory is = absurd is
calm_reads (Ended.Refused code) is = absurd is
calm_reads (Ended.Cut left) is = absurd is
calm_reads (Ended.Idle count) is = tt
calm_reads (Ended.Spent count) is = tt

-- each cause says what it does of an end that the peer refused nothing
pub none_refused : (terms : Terms) (closing : Bool) (cause : Ended) (log : List Entry)
    → IsCalm cause → IsUnrefused (command_of terms.role) closing (moments log)
    → GoesUnrefused terms cause log
none_refused terms closing Ended.Released log calm u = λ past shows. (u past shows).none
none_refused terms closing (Ended.Broken rule place) log calm u = absurd calm
none_refused terms closing Ended.WriteFault log calm u = absurd calm
none_refused terms closing Ended.WireFault log calm u = λ past shows. (u past shows).none
none_refused terms closing Ended.NoMemory log calm u = inl (λ past shows. (u past shows).none)
none_refused terms closing (Ended.Refused code) log calm u = absurd calm
none_refused terms closing (Ended.Cut left) log calm u = λ past shows. (u past shows).none
none_refused terms closing (Ended.Idle count) log calm u = λ past shows. (u past shows).none
none_refused terms closing (Ended.Spent count) log calm u = λ past shows. (u past shows).none

-- the same where the link fails and where memory ran out
pub faults_refused : (terms : Terms) (cause : Ended) (log : List Entry) → IsOfFaults cause
    → ShowsNoRefusal terms (moments log) → GoesUnrefused terms cause log
faults_refused terms Ended.Released log is u = absurd is
faults_refused terms (Ended.Broken rule place) log is u = absurd is
faults_refused terms Ended.WriteFault log is u = absurd is
faults_refused terms Ended.WireFault log is u = u
faults_refused terms Ended.NoMemory log is u = inl u
faults_refused terms (Ended.Refused code) log is u = absurd is
faults_refused terms (Ended.Cut left) log is u = absurd is
faults_refused terms (Ended.Idle count) log is u = absurd is
faults_refused terms (Ended.Spent count) log is u = absurd is

none_first : (first second : Option ℕ) → first_code first second ≡ None → first ≡ None
none_first None second same = refl
none_first (Some code) second same = absurd (let other : Some code ≡ None = same in cc)

-- the log without octets that are still to be written shows no refusal, where it shows none with
-- them
pub none_on : (closing : Bool) (session : Held) (log : List Entry) (octets : List ℕ)
    → StandsOn session (put_all octets (moments log))
    → IsUnrefused (command_of session.role) closing (put_all octets (moments log))
    → ShowsNoRefusal (terms_of session) (moments log)
none_on closing session log octets s u past shows =
    let command = command_of session.role in
    let shown = s.logged.shown in
    goes-so (λ (journal : List Item). refusal command journal ≡ None)
    (λ item journal is later. none_first (refusal command journal)
    (refused_at command item journal) later) octets (moments log) past shown.past shows
    shown.shows (u shown.past shown.shows).none

-- ---- a sender

module _ (plan : PlainPlan) (progress : Progress) (session : Held) where
  -- an initiator is to send
  as_shown : session.role ≡ Role.Initiator → (closing : Bool) (log : List Moment)
      → IsUnrefused Command.Send closing log → IsUnrefused (command_of session.role) closing log
  as_shown role closing log u =
      subst (λ (c : Command). IsUnrefused c closing log) (sym (ap command_of role)) u

  pub writes_sending : (log : List Entry) (front octets : List ℕ)
      → SendsOn plan progress session (put_all (front ++ octets) (moments log))
      → SendsOn plan progress session (put_all octets (moments (wrote front ∷ log)))
  writes_sending log front octets s =
      subst (SendsOn plan progress session) (put-append front octets (moments log)) s

  -- the same journal is shown by another log
  shown_sending : (old new : List Moment) (s : SendsOn plan progress session old)
      → IsLogged (terms_of session) s.on.rest s.on.journal new
      → SendsOn plan progress session new
  shown_sending old new s l =
      record { sender = s.sender; on = shown_on session old new s.on l; sends = s.sends }

  pub quiets_sending : (log : List Entry) → SendsOn plan progress session (moments log)
      → SendsOn plan progress session (moments (quiet ∷ log))
  quiets_sending log s = shown_sending (moments log) (moments (quiet ∷ log)) s
      (quiet-logged (terms_of session) s.on.rest s.on.journal (moments log) s.on.logged)

  pub closes_sending : (log : List Entry) → SendsOn plan progress session (moments log)
      → SendsOn plan progress session (moments (ended ∷ log))
  closes_sending log s = shown_sending (moments log) (moments (ended ∷ log)) s
      (over-logged (terms_of session) s.on.rest s.on.journal (moments log) s.on.logged)

  pub stops_sending : terms_of session ≡ plan.terms → (log : List Entry) (octets : List ℕ)
      (cause : Ended) → IsOfFaults cause
      → SendsOn plan progress session (put_all octets (moments log)) → (closing : Bool)
      → IsUnrefused Command.Send closing (put_all octets (moments log))
      → TellsSent plan cause log
  stops_sending same log octets cause is s closing u = record {
    shows = subst (λ (t : Terms). Shows t cause log) same
        (stops_on session log octets cause is s.on);
    sent = λ released. absurd (subst IsOfFaults released is);
    unrefused = subst (λ (t : Terms). GoesUnrefused t cause log) same
        (faults_refused (terms_of session) cause log is
        (none_on closing session log octets s.on
        (as_shown s.sender.role closing (put_all octets (moments log)) u)));
  }

  pub spends_sending : terms_of session ≡ plan.terms → (log : List Entry) (cause : Ended)
      → IsOfReads cause → is_over session.peer ≡ false
      → SendsOn plan progress session (moments log) → (closing : Bool)
      → IsUnrefused Command.Send closing (moments log) → TellsSent plan cause log
  spends_sending same log cause is going s closing u = record {
    shows = subst (λ (t : Terms). Shows t cause log) same
        (spends_on session log cause is going s.on);
    sent = λ released. absurd (subst IsOfReads released is);
    unrefused = subst (λ (t : Terms). GoesUnrefused t cause log) same
        (none_refused (terms_of session) closing cause log (calm_reads cause is)
        (as_shown s.sender.role closing (moments log) u));
  }

-- ---- a listener

module _ (plan : PlainPlan) (session : Held) where
  pub writes_serving : (log : List Entry) (front octets : List ℕ)
      → ServesOn plan session (put_all (front ++ octets) (moments log))
      → ServesOn plan session (put_all octets (moments (wrote front ∷ log)))
  writes_serving log front octets s =
      subst (ServesOn plan session) (put-append front octets (moments log)) s

  -- the same journal is shown by another log
  shown_serving : (old new : List Moment) (s : ServesOn plan session old)
      → IsLogged (terms_of session) s.on.rest s.on.journal new → ServesOn plan session new
  shown_serving old new s l =
      record { listener = s.listener; on = shown_on session old new s.on l; serves = s.serves }

  pub quiets_serving : (log : List Entry) → ServesOn plan session (moments log)
      → ServesOn plan session (moments (quiet ∷ log))
  quiets_serving log s = shown_serving (moments log) (moments (quiet ∷ log)) s
      (quiet-logged (terms_of session) s.on.rest s.on.journal (moments log) s.on.logged)

  pub closes_serving : (log : List Entry) → ServesOn plan session (moments log)
      → ServesOn plan session (moments (ended ∷ log))
  closes_serving log s = shown_serving (moments log) (moments (ended ∷ log)) s
      (over-logged (terms_of session) s.on.rest s.on.journal (moments log) s.on.logged)

-- ---- what refuses an end

module _ (command : Command) (closing : Bool) (log : List Entry) where
  pub writes_unrefused : (front octets : List ℕ)
      → IsUnrefused command closing (put_all (front ++ octets) (moments log))
      → IsUnrefused command closing (put_all octets (moments (wrote front ∷ log)))
  writes_unrefused front octets u =
      subst (IsUnrefused command closing) (put-append front octets (moments log)) u

  -- what changes nothing that a log shows
  rests_unrefused : (past : Past) (s : ShowsPast none_tunes (none ∷ moments log) past)
      → IsUnrefused command closing (moments log) → Unrefused command closing past.journal
  rests_unrefused past s u =
      subst (λ (p : Past). Unrefused command closing p.journal) (sym s.2) (u s.0 s.1)

  pub quiets_unrefused : IsUnrefused command closing (moments log)
      → IsUnrefused command closing (moments (quiet ∷ log))
  quiets_unrefused u past s = rests_unrefused past s u

  pub closes_unrefused : IsUnrefused command closing (moments log)
      → IsUnrefused command closing (moments (ended ∷ log))
  closes_unrefused u past s =
      subst (λ (p : Past). Unrefused command closing p.journal) (sym s.2) (u s.0 s.1)

-- ---- what was due

-- a fault of the link says nothing of what was due
pub faults_idle : (plan : PlainPlan) (cause : Ended) (log : List Moment) → IsOfFaults cause
    → TellsIdle plan cause log
faults_idle plan Ended.Released log is = absurd is
faults_idle plan (Ended.Broken rule place) log is = absurd is
faults_idle plan Ended.WriteFault log is = absurd is
faults_idle plan Ended.WireFault log is = tt
faults_idle plan Ended.NoMemory log is = tt
faults_idle plan (Ended.Refused code) log is = absurd is
faults_idle plan (Ended.Cut left) log is = absurd is
faults_idle plan (Ended.Idle count) log is = absurd is
faults_idle plan (Ended.Spent count) log is = absurd is

-- where nothing is due the settings may stop it
pub reads_idle : (plan : PlainPlan) (cause : Ended) (log : List Moment) → IsOfReads cause
    → IsIdle plan log → TellsIdle plan cause log
reads_idle plan Ended.Released log is idle = absurd is
reads_idle plan (Ended.Broken rule place) log is idle = absurd is
reads_idle plan Ended.WriteFault log is idle = absurd is
reads_idle plan Ended.WireFault log is idle = absurd is
reads_idle plan Ended.NoMemory log is idle = absurd is
reads_idle plan (Ended.Refused code) log is idle = absurd is
reads_idle plan (Ended.Cut left) log is idle = absurd is
reads_idle plan (Ended.Idle count) log is idle = idle
reads_idle plan (Ended.Spent count) log is idle = idle

-- no more is said of what was due where the end itself stops
pub stop_idle : (plan : PlainPlan) (stop : Stop) (log : List Moment)
    → TellsIdle plan (ended_by stop) log
stop_idle plan Stop.Released log = tt
stop_idle plan (Stop.Broken rule place) log = tt
stop_idle plan Stop.WriteFault log = tt
stop_idle plan Stop.NoMemory log = tt
stop_idle plan (Stop.Refused code) log = tt
