-- A run of `send` or `listen` that ended with 0 goes well, where its links tell their logs: so the
-- premises of `send_complete` and `listen_complete` are met.
use Rattle.std.proofs.Common.{◌≡◌, ℕ, ◌+◌, ◌<◌, ◌≤◌, ◌⊎◌, inl, inr, nat_le, Bool, true, false, if◌then◌else◌, List, [], ◌∷◌, ◌++◌, Some, None, refl, ap, sym, ◌∙◌, arith, subst, append-nil}
use Rattle.std.proofs.lemmas.Bool.Decides.{nat_tests}
use Rattle.std.specs.Io.KnownBytes.{Consumes}
use Rattle.beep_runs.specs.beep_journal.specs.declared.role.Role.{Role}
use Rattle.beep_runs.specs.beep_wires.specs.Counts.{Rose}
use Rattle.beep_runs.specs.beep_wires.specs.Links.{Link}
use Rattle.beep_runs.specs.beep_wires.specs.Log.{Entry}
use Rattle.beep_runs.specs.beep_wires.specs.States.{SinkState}
use Rattle.beep_runs.specs.beep_link.specs.Causes.{Seen, WhereKnown}
use Rattle.beep_runs.specs.beep_link.specs.declared.ended.Ended.{Ended}
use Rattle.beep_runs.specs.beep_settings.specs.declared.settings.Settings.{Settings}
use Rattle.beep_runs.specs.beep_steps.specs.Logs.{Shows, terms_by}
use Rattle.beep_runs.specs.beep_steps.specs.Refusing.{GoesUnrefused}
use Rattle.beep_show.specs.beep_input.specs.Lines.{AreLines}
use Rattle.beep_show.specs.Show.{NoFault, Run}
use Rattle.beep_cmd.specs.Ends.{asking, EachOf, ended_line, ended_status, EndsIn, ends_run, HasCause, IsSendReport, ListenCause, over, bad_input, unread_input, SendCause, Sent, send_written, send_begun, send_starved, session, WritesLast, whole_line, line_begun}
use Rattle.beep_cmd.specs.Listening.{EndsBy, first_of, run_cause, Session, SessionsOver, WritesLines, WritesOf}
use Rattle.beep_cmd.specs.Recording.{ListenRecorded, record_written, record_starved}
use Rattle.beep_cmd.specs.Complete.{LinkGoesWell, ListenGoesWell, SendGoesWell}
use Rattle.beep_cmd.proofs.CompleteLemmas.{read_first, at_end}

-- ---- one link

-- the link tells its log
abbrev pub IsTold : Link → Type 0
IsTold link = (log : List Entry) × (link.log ≡ Some log)

-- all went well where its session is released
released_well : (role : Role) (settings : Settings) (link : Link) → IsTold link → EndsIn role settings Ended.Released link → WhereKnown (GoesUnrefused (terms_by role settings) Ended.Released) link.log → LinkGoesWell role settings link
released_well role settings link told e unrefused =
    let shows = subst (WhereKnown (Shows (terms_by role settings) Ended.Released)) told.1 e.1 in
    record {
      log = told.0;
      tells = told.1;
      unfailed = e.0.unfailed (λ f. cc);
      past = shows.sound.past;
      shows = shows.sound.shows;
      unbroken = λ fault is. let two : None ≡ Some fault = sym shows.sound.going ∙ is in absurd (cc);
      unrefused = (subst (WhereKnown (GoesUnrefused (terms_by role settings) Ended.Released)) told.1 unrefused) shows.sound.past shows.sound.shows;
      uncut = λ ended. let two : true ≡ false = sym ended ∙ e.0.cut in absurd (cc);
      heard = λ unreleased. let two : true ≡ false = sym shows.released ∙ unreleased in absurd (cc);
      fewer = λ unreleased. let two : true ≡ false = sym shows.released ∙ unreleased in absurd (cc);
    }

-- 0 is the status of a release alone
released_is : (cause : Ended) → ended_status cause ≡ 0 → cause ≡ Ended.Released
released_is Ended.Released e = refl
released_is (Ended.Broken rule place) e = absurd (omega (arith, e))
released_is Ended.WriteFault e = absurd (omega (arith, e))
released_is Ended.WireFault e = absurd (omega (arith, e))
released_is Ended.NoMemory e = absurd (omega (arith, e))
released_is (Ended.Refused code) e = absurd (omega (arith, e))
released_is (Ended.Cut left) e = absurd (omega (arith, e))
released_is (Ended.Idle reads) e = absurd (omega (arith, e))
released_is (Ended.Spent octets) e = absurd (omega (arith, e))

-- ---- `send`

module _ (settings : Settings) (before after : Seen) (run : Run) (octets : List ℕ) (tells : run.source.left ≡ Some octets) (no_fault : NoFault run) (no_dial : Rose before.counts.dials after.counts.dials → ⊥) (told : EachOf before after IsTold) where
  sends_well : (lines : List (List ℕ)) → AreLines lines octets → SendCause Ended.Released settings before after → EachOf before after (λ link. WhereKnown (GoesUnrefused (terms_by Role.Initiator settings) Ended.Released) link.log) → SendGoesWell settings before after run
  sends_well lines are (asking is failed) unrefused = absurd (no_dial failed.0)
  sends_well lines are (session c all) unrefused = record {
    octets = octets;
    tells = tells;
    are_lines = subst (λ (ls : List (List ℕ)). AreLines ls octets) are.lines_are are;
    no_fault = no_fault;
    no_dial = no_dial;
    links = λ link least less. released_well Role.Initiator settings (after.state link) (told link least less) (c link least less) (unrefused link least less);
  }

  report_met : (read text : List ℕ) (status : ℕ) → status ≡ 0 → Consumes run.source.left run.source_after.left read → IsSendReport settings run.source run.source_after before after read text status → SendGoesWell settings before after run
  report_met read text status z c (over ended lines are cause n m by sends e t) =
      let all = read_first octets read run.source.left run.source_after.left tells c in
      let none : all.0 ≡ [] = at_end run.source_after.left all.0 all.2 ended.1 in
      let same : read ≡ octets = sym (append-nil read) ∙ ap (λ x. read ++ x) (sym none) ∙ sym all.1 in
      let is : cause ≡ Ended.Released = released_is cause (sym e ∙ z) in
      sends_well lines (subst (AreLines lines) same are) (subst (λ (k : Ended). SendCause k settings before after) is by)
      (λ link least less. subst (λ (k : Ended). WhereKnown (GoesUnrefused (terms_by Role.Initiator settings) k) (after.state link).log) is (sends.unrefused link least less))
  report_met read text status z c (bad_input number bad e t same) = absurd (omega (arith, e, z))
  report_met read text status z c (unread_input rose e t same) = absurd (omega (arith, e, z))

  -- a run of `send` with status 0 meets the premise of `send_complete`
  pub send_met : (status : ℕ) → status ≡ 0 → Sent settings before after status run → SendGoesWell settings before after run
  send_met status z (send_written sees) = report_met sees.octets sees.text status z sees.consumed sees.holds
  send_met status z (send_begun e rose sees) = absurd (omega (arith, e, z))
  send_met status z (send_starved e sees) = absurd (omega (arith, e, z))

-- ---- `listen`

-- the first of two ends that isn't a release is none where both are
no_first : (first ended : Ended) → Ended.Released ≡ first_of first ended → (first ≡ Ended.Released) × (ended ≡ Ended.Released)
no_first Ended.Released ended e = (refl, sym e)
no_first (Ended.Broken rule place) ended e = absurd (cc)
no_first Ended.WriteFault ended e = absurd (cc)
no_first Ended.WireFault ended e = absurd (cc)
no_first Ended.NoMemory ended e = absurd (cc)
no_first (Ended.Refused code) ended e = absurd (cc)
no_first (Ended.Cut left) ended e = absurd (cc)
no_first (Ended.Idle reads) ended e = absurd (cc)
no_first (Ended.Spent octets) ended e = absurd (cc)

both_released : (over : Bool) (first ended : Ended) → ends_run ended ≡ over → Ended.Released ≡ (if over then ended else first_of first ended) → (first ≡ Ended.Released) × (ended ≡ Ended.Released)
both_released true first ended o e = let two : true ≡ false = sym o ∙ ap ends_run (sym e) in absurd (cc)
both_released false first ended o e = no_first first ended e

split : (G : Type 0) (first link : ℕ) (b : Bool) → nat_le first link ≡ b → (first ≤ link → G) → (link < first → G) → G
split G first link true e later sooner = later (grind (arith, nat_tests, e))
split G first link false e later sooner = sooner (grind (arith, nat_tests, e))

module _ (settings : Settings) (before after : Seen) (told : EachOf before after IsTold) where
  module _ (link : ℕ) (least : before.counts.given ≤ link) (less : link < after.counts.given) where
    session_met : (one : Session) → one.cause ≡ Ended.Released → WhereKnown (WritesOf settings one) (after.state link).log → HasCause settings one.cause (after.state link) → LinkGoesWell Role.Listener settings (after.state link)
    session_met one is writes because =
        let has = told link least less in
        let w : WritesOf settings one has.0 = subst (WhereKnown (WritesOf settings one)) has.1 writes in
        let known : (P : List Entry → Type 0) → P has.0 → WhereKnown P (after.state link).log = λ P p. subst (WhereKnown P) (sym has.1) p in
        released_well Role.Listener settings (after.state link) has (
          subst (λ (k : Ended). HasCause settings k (after.state link)) is because,
          known (Shows (terms_by Role.Listener settings) Ended.Released) (subst (λ (k : Ended). Shows (terms_by Role.Listener settings) k has.0) is w.shows),
        ) (known (GoesUnrefused (terms_by Role.Listener settings) Ended.Released) (subst (λ (k : Ended). GoesUnrefused (terms_by Role.Listener settings) k has.0) is w.unrefused))

    -- each of the sessions up to a link was released
    each_met : (sessions : List Session) (next : ℕ) → Ended.Released ≡ run_cause sessions → next ≤ after.counts.given → link < next → SessionsOver settings after.state before.counts.given sessions next → LinkGoesWell Role.Listener settings (after.state link)
    each_met [] next e most before_it done = absurd (omega (arith, done, least, before_it))
    each_met (one ∷ earlier) next e most before_it done =
        let both = both_released (ends_run one.cause) (run_cause earlier) one.cause refl e in
        split (LinkGoesWell Role.Listener settings (after.state link)) done.0 link (nat_le done.0 link) refl (
        λ later.
        let same : done.0 ≡ link = omega (arith, done.1, before_it, later) in
        session_met one both.1 (subst (λ (n : ℕ). WhereKnown (WritesOf settings one) (after.state n).log) same done.3) (subst (λ (n : ℕ). HasCause settings one.cause (after.state n)) same done.4)
        ) (λ sooner. each_met earlier done.0 (sym both.0) (omega (arith, done.1, most)) sooner done.5)

  zero_cause : (cause : Ended) (line : List ℕ) (status : ℕ) (old new : SinkState) → status ≡ 0 → WritesLast (ended_status cause) line status old new → cause ≡ Ended.Released
  zero_cause cause line status old new z (whole_line is appended) = released_is cause (sym is ∙ z)
  zero_cause cause line status old new z (line_begun is some rose prefix) = absurd (omega (arith, is, z))

  other_end : (cause : Ended) (P Q : Type 0) → cause ≡ Ended.Released → (cause ≡ Ended.WireFault) × P ⊎ (cause ≡ Ended.NoMemory) × Q → ⊥
  other_end cause P Q is = elim [ inl w ↦ (let two : Ended.Released ≡ Ended.WireFault = sym is ∙ w.0 in absurd (cc)) | inr w ↦ (let two : Ended.Released ≡ Ended.NoMemory = sym is ∙ w.0 in absurd (cc)) ]

  links_met : (cause : Ended) (sessions : List Session) → cause ≡ Ended.Released → SessionsOver settings after.state before.counts.given sessions after.counts.given → EndsBy settings before after cause sessions → EachOf before after (LinkGoesWell Role.Listener settings)
  links_met cause sessions is done = elim [
    | inl w ↦ λ link least less. each_met link least less sessions after.counts.given (sym is ∙ w.0) (omega arith) less done
    | inr w ↦ absurd (other_end cause _ _ is w.1)
  ]

  module _ (status : ℕ) (old new : SinkState) (z : status ≡ 0) (no_write : Rose old.faults new.faults → ⊥) (no_accept : Rose before.counts.accepts after.counts.accepts → ⊥) where
    -- a run of `listen` with status 0 meets the premise of `listen_complete`
    pub listen_met : WritesLines settings before after status old new → ListenGoesWell settings before after old new
    listen_met w = record {
      no_write = no_write;
      no_accept = no_accept;
      links = links_met w.cause w.sessions (zero_cause w.cause (ended_line w.cause) status w.middle new z w.last) w.over w.ends;
    }

    listens_well : ListenCause Ended.Released settings before after → EachOf before after (λ link. WhereKnown (GoesUnrefused (terms_by Role.Listener settings) Ended.Released) link.log) → ListenGoesWell settings before after old new
    listens_well (asking is failed) unrefused = absurd (no_accept failed)
    listens_well (session c all) unrefused = record {
      no_write = no_write;
      no_accept = no_accept;
      links = λ link least less. released_well Role.Listener settings (after.state link) (told link least less) (c link least less) (unrefused link least less);
    }

    -- so does one that is recorded
    pub listen_recorded_met : ListenRecorded settings before after status old new → ListenGoesWell settings before after old new
    listen_recorded_met (record_written cause n m by text ending last) =
        let is : cause ≡ Ended.Released = zero_cause cause text status old new z last in
        listens_well (subst (λ (k : Ended). ListenCause k settings before after) is by.0)
        (λ link least less. subst (λ (k : Ended). WhereKnown (GoesUnrefused (terms_by Role.Listener settings) k) (after.state link).log) is (by.1.unrefused link least less))
    listen_recorded_met (record_starved cause by e appended) = absurd (omega (arith, e, z))
