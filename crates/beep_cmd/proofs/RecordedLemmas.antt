-- How a run that is recorded ends.
use Rattle.std.proofs.Common.{◌≡◌, ◌≢◌, inl, inr, ⊎_elim, ℕ, ◌+◌, ◌≤◌, true, false, List, [], ◌∷◌, ◌++◌, chars, codes, refl, sym, ap, ◌∙◌, subst, arith, append_assoc}
use Rattle.std.proofs.lemmas.List.{append-nil}
use Rattle.std.specs.Fmt.{decimal}
use Rattle.std.specs.Io.KnownBytes.{Appends, Consumes}
use Rattle.beep_runs.specs.beep_journal.specs.declared.role.Role.{Role}
use Rattle.beep_runs.specs.beep_record.specs.Record.{first_line, log_text}
use Rattle.beep_runs.specs.beep_record.specs.declared.limits.TheConstants.{MAX_STATUS}
use Rattle.beep_runs.specs.beep_wires.specs.Counts.{Rose}
use Rattle.beep_runs.specs.beep_wires.specs.States.{SourceState, SinkState}
use Rattle.beep_runs.specs.beep_wires.specs.Links.{Link, dial, accept}
use Rattle.beep_runs.specs.beep_settings.specs.declared.settings.Settings.{Settings}
use Rattle.beep_runs.specs.beep_link.specs.declared.ended.Ended.{Ended}
use Rattle.beep_runs.specs.beep_link.specs.Causes.{IsBounded, IsCaused, Seen, WhereKnown}
use Rattle.beep_runs.specs.beep_steps.specs.EachEnd.{EachEndOn}
use Rattle.beep_runs.specs.beep_steps.specs.Ends.{reads_of}
use Rattle.beep_runs.specs.beep_steps.specs.Logs.{moments, IsLawfulOn, terms_by}
use Rattle.beep_runs.specs.beep_steps.specs.Refusing.{GoesUnrefused, ReadsOnlyGoing}
use Rattle.beep_runs.specs.beep_steps.specs.Resting.{AreShort, TellsIdle}
use Rattle.beep_runs.specs.beep_steps.specs.Sending.{sender_plan, SendsAll}
use Rattle.beep_runs.specs.beep_listener.specs.Listening.{listener_plan}
use Rattle.beep_runs.specs.beep_recorder.specs.Kept.{RecordsLink}
use Rattle.beep_runs.specs.Runs.{AsksThis, HasListened, IsRecorded, NotGiven, Ran, SentAll}
use Rattle.beep_show.specs.beep_input.specs.Whole.{HasEnded}
use Rattle.beep_show.specs.beep_input.specs.Lines.{AreLines}
use Rattle.beep_show.specs.Show.{Run, run_of}
use Rattle.beep_cmd.specs.Recorded.{IsEnding, lined, recorded}
use Rattle.beep_cmd.specs.Recording.{EndsRecorded, KeepsListening, ListenRecorded, SendRecorded, record_written, record_starved, TellsRecord, TellsWhole, whole_record, no_record}
use Rattle.beep_cmd.specs.Ends.{AcceptsAtMost, AsksOnly, DialsOnce, EachOf, ended_line, ended_status, IsAcceptOf, IsDialOf, ListenCause, Listened, listen_starved, listen_written, listen_unwritten, open_of, over, SendCause, SendsLines, Sent, send_starved, session, SessionCause, WritesLast, whole_line, line_begun, WritesLawfully}
use Rattle.beep_cmd.proofs.EndsLemmas.{sent}
use Rattle.beep_cmd.proofs.ServingLemmas.{asks_once, each_none, each_of_it, each_one, session_cause}

-- ---- a record and its status

regroup : (b s d e : List ℕ) → ((b ++ s) ++ d) ++ e ≡ b ++ ((s ++ d) ++ e)
regroup b s d e = ap (λ x. x ++ e) (append_assoc b s d) ∙ append_assoc b (s ++ d) e

pub record_tells : (role : Role) (link : Link) (status result : ℕ) (front text : List ℕ) (old new : SinkState) → status ≤ MAX_STATUS → RecordsLink link role [] front
    → text ≡ (front ++ codes "S " ++ decimal status) ++ 10 ∷ [] → WritesLast status text result old new → TellsWhole role link status result old new
record_tells role link status result front text old new within r is tells =
    let body = first_line role ++ log_text r.writes.lines in
    let whole : front ≡ body = r.writes.text_is ∙ append-nil body in
    whole_record text (record {
      log = r.log;
      logged = r.logged;
      lines = r.writes.lines;
      is_record = record { log = r.writes.is_record.log; status = within };
      flat_is = r.writes.flat_is;
      same = r.writes.same;
      text_is = is ∙ ap (λ (x : List ℕ). (x ++ codes "S " ++ decimal status) ++ 10 ∷ []) whole ∙ regroup body (codes "S ") (decimal status) (10 ∷ []);
    }) tells

-- each status is one that a record can tell
pub status_within : (cause : Ended) → ended_status cause ≤ MAX_STATUS
status_within Ended.Released = omega arith
status_within (Ended.Broken rule place) = omega arith
status_within Ended.WriteFault = omega arith
status_within Ended.WireFault = omega arith
status_within Ended.NoMemory = omega arith
status_within (Ended.Refused code) = omega arith
status_within (Ended.Cut left) = omega arith
status_within (Ended.Idle reads) = omega arith
status_within (Ended.Spent octets) = omega arith

pub tells_record : (role : Role) (link : Link) (cause : Ended) (result : ℕ) (old new : SinkState) → cause ≢ Ended.NoMemory → TellsWhole role link (ended_status cause) result old new → TellsRecord role link cause result old new
tells_record role link Ended.Released result old new some t = t
tells_record role link (Ended.Broken rule place) result old new some t = t
tells_record role link Ended.WriteFault result old new some t = t
tells_record role link Ended.WireFault result old new some t = t
tells_record role link Ended.NoMemory result old new some t = absurd (some refl)
tells_record role link (Ended.Refused code) result old new some t = t
tells_record role link (Ended.Cut left) result old new some t = t
tells_record role link (Ended.Idle reads) result old new some t = t
tells_record role link (Ended.Spent octets) result old new some t = t

-- ---- what a run shows

module _ (role : Role) (settings : Settings) (cause : Ended) (before after : Seen) (r : Ran role settings cause before after) where
  pub cause_of : SessionCause cause role settings before after
  cause_of = ⊎_elim
      (λ same. session_cause role settings before after before.counts.given refl r.given r.fresh r.last r.is_fresh r.shut before.counts.quiets (omega arith) r.exact cause
      (subst (λ (e : Ended). IsCaused e (reads_of settings) (record { link = r.fresh; quiets = before.counts.quiets }) (record { link = r.last; quiets = after.counts.quiets })) (sym same) r.caused) r.shown)
      (λ short. subst (λ (e : Ended). SessionCause e role settings before after) (sym short) tt) r.ended_is

  pub lawful_of : WritesLawfully role settings before after
  lawful_of = each_of_it role settings before after before.counts.given refl r.given r.fresh r.last r.is_fresh r.shut before.counts.quiets (omega arith) (λ link. WhereKnown (IsLawfulOn (terms_by role settings)) link.log) r.lawful

  pub bounded_of : EachOf before after (λ link. IsBounded (reads_of settings) link.log)
  bounded_of = each_of_it role settings before after before.counts.given refl r.given r.fresh r.last r.is_fresh r.shut before.counts.quiets (omega arith) (λ link. IsBounded (reads_of settings) link.log) r.bounded

pub not_given_lawful : (role : Role) (settings : Settings) (cause : Ended) (old new : ℕ) (before after : Seen) → NotGiven cause old new before after → WritesLawfully role settings before after
not_given_lawful role settings cause old new before after n = each_none (λ link. WhereKnown (IsLawfulOn (terms_by role settings)) link.log) before after n.given

pub send_asks : (settings : Settings) (before after : Seen) (host : List ℕ) → chars host ≡ settings.host → AsksThis (dial host settings.port) before after → DialsOnce settings before after
send_asks settings before after host is a =
    asks_once (IsDialOf settings (open_of before)) (dial host settings.port) (open_of before) (λ link. (host, is, refl, refl)) a.0 before.asked after.asked a.1

pub listen_asks : (settings : Settings) (before after : Seen) (bind : List ℕ) → chars bind ≡ settings.bind → settings.sessions ≡ 1 → AsksThis (accept bind settings.port) before after → AcceptsAtMost settings before after
listen_asks settings before after bind is one a =
    subst (λ (n : ℕ). AsksOnly (IsAcceptOf settings (open_of before)) n before.asked after.asked) (sym one)
    (asks_once (IsAcceptOf settings (open_of before)) (accept bind settings.port) (open_of before) (λ link. (bind, is, refl, refl)) a.0 before.asked after.asked a.1)

-- ---- how it ends

seven_five : (n : ℕ) → n ≡ 7 → n ≡ 5 → ⊥
seven_five n a b = absurd (omega (arith, a, b))

module _ (Cause : Ended → Type 0) (role : Role) (before after : Seen) (result : ℕ) (old new : SinkState) where
  whole_of : (cause : Ended) → cause ≢ Ended.WriteFault → cause ≢ Ended.NoMemory → Cause cause → after.counts.given ≡ before.counts.given + 1
      → TellsWhole role (after.state before.counts.given) (ended_status cause) result old new → EndsRecorded Cause role before after result old new
  whole_of cause n m c one (whole_record text is tells) = record_written cause n m c text (recorded refl one is) tells
  whole_of cause n m c one (no_record is none) = record_starved cause c is none

  -- a link was given
  pub ends_recorded : (cause : Ended) → cause ≢ Ended.WriteFault → Cause cause → after.counts.given ≡ before.counts.given + 1 → TellsRecord role (after.state before.counts.given) cause result old new
      → EndsRecorded Cause role before after result old new
  ends_recorded Ended.Released n c one t = whole_of Ended.Released n (λ e. cc) c one t
  ends_recorded (Ended.Broken rule place) n c one t = whole_of (Ended.Broken rule place) n (λ e. cc) c one t
  ends_recorded Ended.WriteFault n c one t = absurd (n refl)
  ends_recorded Ended.WireFault n c one t = whole_of Ended.WireFault n (λ e. cc) c one t
  ends_recorded Ended.NoMemory n c one t = record_starved Ended.NoMemory c t.0 t.1
  ends_recorded (Ended.Refused code) n c one t = whole_of (Ended.Refused code) n (λ e. cc) c one t
  ends_recorded (Ended.Cut left) n c one t = whole_of (Ended.Cut left) n (λ e. cc) c one t
  ends_recorded (Ended.Idle reads) n c one t = whole_of (Ended.Idle reads) n (λ e. cc) c one t
  ends_recorded (Ended.Spent octets) n c one t = whole_of (Ended.Spent octets) n (λ e. cc) c one t

  unsaid : result ≡ 7 → WritesLast 7 [] result old new → Appends old.written new.written []
  unsaid is (whole_line e appended) = appended
  unsaid is (line_begun e some rose prefix) = absurd (seven_five result is e)

  -- no link was given
  pub ends_unlinked : (cause : Ended) (a b : ℕ) → NotGiven cause a b before after → (Rose a b → Cause Ended.WireFault) → Cause Ended.NoMemory → WritesLast (ended_status cause) (ended_line cause) result old new
      → (ended_line cause ≡ [] → (result ≡ ended_status cause) × (new.faults ≡ old.faults)) → EndsRecorded Cause role before after result old new
  ends_unlinked cause a b g asked starved tells none = elim g.why as (λ _. EndsRecorded Cause role before after result old new) [
    | inl wire ↦ record_written Ended.WireFault (λ e. cc) (λ e. cc) (asked wire.1) (ended_line Ended.WireFault) (lined (inr g.given) refl)
        (subst (λ (c : Ended). WritesLast (ended_status c) (ended_line c) result old new) wire.0 tells)
    | inr short ↦
        let is : result ≡ 7 = (subst (λ (c : Ended). ended_line c ≡ [] → (result ≡ ended_status c) × (new.faults ≡ old.faults)) short none refl).0 in
        record_starved Ended.NoMemory starved is (unsaid is (subst (λ (c : Ended). WritesLast (ended_status c) (ended_line c) result old new) short tells))
  ]

-- the record of a run, whose octets began with none
pub record_is : (role : Role) (cause : Ended) (before after : Seen) (old new : List ℕ) → old ≡ [] → IsRecorded role cause before after old new → cause ≢ Ended.NoMemory
    → RecordsLink (after.state before.counts.given) role [] new
record_is role cause before after old new empty r some = subst (λ (x : List ℕ). RecordsLink (after.state before.counts.given) role x new) empty (r.whole some)

-- ---- `send` and `listen`

pub sent_recorded : (settings : Settings) (before after : Seen) (result : ℕ) (run : Run) (octets : List ℕ) → Consumes run.source.left run.source_after.left octets → settings.recording ≡ true
    → HasEnded run.source_after → (lines : List (List ℕ)) → AreLines lines octets
    → SendRecorded settings lines before after result run.sink run.sink_after → Sent settings before after result run
sent_recorded settings before after result run octets consumed recording ended lines are (record_written cause n m c text ending tells) =
    sent settings before after run octets consumed (ended_status cause) text result
    (over ended lines are cause n (λ short. absurd (m short)) c.0 c.1 refl (subst (λ b. IsEnding b Role.Initiator before after (ended_status cause) (ended_line cause) text) (sym recording) ending)) tells
sent_recorded settings before after result run octets consumed recording ended lines are (record_starved cause c is none) =
    send_starved is (record { octets = octets; text = []; consumed = consumed; appended = none; holds = (refl, inr (ended, lines, are, cause, c.1)) })

pub listened_recorded : (settings : Settings) (before after : Seen) (result : ℕ) (source : SourceState) (sink sink_after : SinkState) → settings.recording ≡ true → ListenRecorded settings before after result sink sink_after
    → Listened settings before after result (run_of source source sink sink_after)
listened_recorded settings before after result source sink sink_after recording (record_written cause n m c text ending (whole_line is appended)) =
    listen_written cause n m c.0 is (λ plain. absurd (let h : true ≡ false = sym recording ∙ plain in cc))
listened_recorded settings before after result source sink sink_after recording (record_written cause n m c text ending (line_begun is some rose prefix)) = listen_unwritten is rose
listened_recorded settings before after result source sink sink_after recording (record_starved cause c is none) = listen_starved is

-- the causes of a run over one link
pub send_caused : (settings : Settings) (cause : Ended) (before after : Seen) → Ran Role.Initiator settings cause before after → SendCause cause settings before after
send_caused settings cause before after r = session (cause_of Role.Initiator settings cause before after r) (λ e. r.given)

-- what was sent over the one link was sent over each
pub send_sends : (settings : Settings) (lines : List (List ℕ)) (cause : Ended) (before after : Seen) → Ran Role.Initiator settings cause before after → AreShort lines → SentAll settings lines cause before after → SendsLines cause settings lines before after
send_sends settings lines cause before after r short sent = record {
  all = λ released. each_one (λ link. WhereKnown (SendsAll (sender_plan settings lines)) link.log) before after before.counts.given refl r.given (sent.all released);
  unrefused = each_one (λ link. WhereKnown (GoesUnrefused (terms_by Role.Initiator settings) cause) link.log) before after before.counts.given refl r.given sent.unrefused;
  waits = each_one (λ link. WhereKnown (ReadsOnlyGoing (terms_by Role.Initiator settings)) link.log) before after before.counts.given refl r.given sent.waits;
  bounded = bounded_of Role.Initiator settings cause before after r;
  rested = each_one (λ link. WhereKnown (λ log. TellsIdle (sender_plan settings lines) cause (moments log)) link.log) before after before.counts.given refl r.given (sent.rested short);
  each = each_one (λ link. WhereKnown (EachEndOn (sender_plan settings lines) cause) link.log) before after before.counts.given refl r.given (sent.each short);
}

-- no link was given, so that none was released, and none shows otherwise
pub unlinked_sends : (settings : Settings) (lines : List (List ℕ)) (cause : Ended) → (cause ≡ Ended.Released → ⊥) → (before after : Seen) → after.counts.given ≡ before.counts.given → SendsLines cause settings lines before after
unlinked_sends settings lines cause other before after same = record {
  all = λ e. absurd (other e);
  unrefused = each_none (λ link. WhereKnown (GoesUnrefused (terms_by Role.Initiator settings) cause) link.log) before after same;
  waits = each_none (λ link. WhereKnown (ReadsOnlyGoing (terms_by Role.Initiator settings)) link.log) before after same;
  bounded = each_none (λ link. IsBounded (reads_of settings) link.log) before after same;
  rested = each_none (λ link. WhereKnown (λ log. TellsIdle (sender_plan settings lines) cause (moments log)) link.log) before after same;
  each = each_none (λ link. WhereKnown (EachEndOn (sender_plan settings lines) cause) link.log) before after same;
}

pub listen_caused : (settings : Settings) (cause : Ended) (before after : Seen) → settings.sessions ≡ 1 → Ran Role.Listener settings cause before after → ListenCause cause settings before after
listen_caused settings cause before after one r =
    session (cause_of Role.Listener settings cause before after r) (λ e. r.given ∙ ap (λ (n : ℕ). before.counts.given + n) (sym one))

-- what was kept over the one link was kept over each
pub listen_keeps : (settings : Settings) (cause : Ended) (before after : Seen) → Ran Role.Listener settings cause before after → HasListened settings cause before after → KeepsListening cause settings before after
listen_keeps settings cause before after r kept = record {
  unrefused = each_one (λ link. WhereKnown (GoesUnrefused (terms_by Role.Listener settings) cause) link.log) before after before.counts.given refl r.given kept.unrefused;
  waits = each_one (λ link. WhereKnown (ReadsOnlyGoing (terms_by Role.Listener settings)) link.log) before after before.counts.given refl r.given kept.waits;
  bounded = bounded_of Role.Listener settings cause before after r;
  rested = each_one (λ link. WhereKnown (λ log. TellsIdle (listener_plan settings) cause (moments log)) link.log) before after before.counts.given refl r.given kept.rested;
  each = each_one (λ link. WhereKnown (EachEndOn (listener_plan settings) cause) link.log) before after before.counts.given refl r.given kept.each;
}

pub unlinked_keeps : (settings : Settings) (cause : Ended) (before after : Seen) → after.counts.given ≡ before.counts.given → KeepsListening cause settings before after
unlinked_keeps settings cause before after same = record {
  unrefused = each_none (λ link. WhereKnown (GoesUnrefused (terms_by Role.Listener settings) cause) link.log) before after same;
  waits = each_none (λ link. WhereKnown (ReadsOnlyGoing (terms_by Role.Listener settings)) link.log) before after same;
  bounded = each_none (λ link. IsBounded (reads_of settings) link.log) before after same;
  rested = each_none (λ link. WhereKnown (λ log. TellsIdle (listener_plan settings) cause (moments log)) link.log) before after same;
  each = each_none (λ link. WhereKnown (EachEndOn (listener_plan settings) cause) link.log) before after same;
}
