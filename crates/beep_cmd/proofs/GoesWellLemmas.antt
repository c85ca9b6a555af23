-- Where all goes well a release or running out of memory ends a run of `send` or `listen`, and nothing else.
use Rattle.std.proofs.Common.{◌≡◌, ◌≢◌, ℕ, ◌<◌, ◌≤◌, ◌⊎◌, true, false, List, [], ◌++◌, length, Some, None, inl, inr, refl, ap, sym, ◌∙◌, arith, subst, append-nil, length-append}
use Rattle.std.specs.Io.KnownBytes.{Consumes}
use Rattle.beep_runs.specs.beep_frame.specs.declared.rule.Rule.{Rule}
use Rattle.beep_runs.specs.beep_journal.specs.declared.role.Role.{Role}
use Rattle.beep_runs.specs.beep_journal.specs.Broken.{none_tunes}
use Rattle.beep_runs.specs.beep_journal.specs.Journal.{Past}
use Rattle.beep_runs.specs.beep_journal.specs.Life.{is_released}
use Rattle.beep_runs.specs.beep_journal.proofs.ShownLemmas.{one-shown}
use Rattle.beep_runs.specs.beep_wires.specs.Links.{Link}
use Rattle.beep_runs.specs.beep_wires.specs.States.{SourceState}
use Rattle.beep_runs.specs.beep_link.specs.Causes.{HasRead, IsQuiet, octets_read, quiet_reads, Seen, WhereKnown}
use Rattle.beep_runs.specs.beep_link.specs.declared.ended.Ended.{Ended}
use Rattle.beep_runs.specs.beep_settings.specs.declared.settings.Settings.{Settings}
use Rattle.beep_runs.specs.beep_steps.specs.Logs.{moments, Shows, ShowsGoing, terms_by}
use Rattle.beep_show.specs.beep_input.specs.Lines as inputs
use Rattle.beep_show.specs.beep_input.specs.Lines.{AreLines, IsBad, lines_of}
use Rattle.beep_show.specs.Show.{Run}
use Rattle.beep_cmd.specs.Ends.{asking, EachOf, ended_status, EndsIn, IsSendReport, OneOf, over, bad_input, unread_input, Listened, listen_written, listen_unwritten, listen_starved, RunCause, Sent, send_written, send_begun, send_starved, session, SessionCause}
use Rattle.beep_cmd.specs.Complete.{LinkGoesWell, ListenGoesWell, SendGoesWell}
use Rattle.beep_cmd.proofs.CompleteLemmas.{read_first, at_end}

-- ---- one link

module _ (role : Role) (settings : Settings) (link : Link) (well : LinkGoesWell role settings link) where
  -- what ended its session shows in its log
  shown : (cause : Ended) → EndsIn role settings cause link → Shows (terms_by role settings) cause well.log
  shown cause e = subst (WhereKnown (Shows (terms_by role settings) cause)) well.tells e.1

  not_broken : (rule : Rule) (place : ℕ) → EndsIn role settings (Ended.Broken rule place) link → ⊥
  not_broken rule place e =
      let fault = (shown (Ended.Broken rule place) e).0 in
      let same : fault.broken.past ≡ well.past = one-shown none_tunes (moments well.log) fault.broken.past well.past fault.broken.shows well.shows in
      well.unbroken _ (ap (λ (p : Past). p.fault) (sym same) ∙ fault.broken.fault_is) refl

  not_failed : EndsIn role settings Ended.WireFault link → ⊥
  not_failed e = let one : link.faults ≡ 1 = e.0.because in omega (arith, one, well.unfailed)

  not_refused : (code : ℕ) → EndsIn role settings (Ended.Refused code) link → ⊥
  not_refused code e =
      let two : None ≡ Some code = sym well.unrefused ∙ (shown (Ended.Refused code) e).1 well.past well.shows in
      absurd (cc)

  not_cut : (left : ℕ) → EndsIn role settings (Ended.Cut left) link → ⊥
  not_cut left e =
      let cut = shown (Ended.Cut left) e in
      let same : cut.sound.past ≡ well.past = one-shown none_tunes (moments well.log) cut.sound.past well.past cut.sound.shows well.shows in
      let two : true ≡ false = sym (well.uncut e.0.cut) ∙ ap (λ (p : Past). is_released p.journal) (sym same) ∙ cut.unreleased in
      absurd (cc)

  -- a log that shows a session which isn't released shows the one at hand
  not_released : (cause : ShowsGoing (terms_by role settings) (moments well.log)) → is_released well.past.journal ≡ false
  not_released cause =
      let same : cause.sound.past ≡ well.past = one-shown none_tunes (moments well.log) cause.sound.past well.past cause.sound.shows well.shows in
      ap (λ (p : Past). is_released p.journal) (sym same) ∙ cause.unreleased

  not_idle : (reads : ℕ) → EndsIn role settings (Ended.Idle reads) link → ⊥
  not_idle reads e =
      let few : quiet_reads well.log < settings.idle = well.heard (not_released (shown (Ended.Idle reads) e)) in
      let many : settings.idle ≤ quiet_reads well.log = subst (IsQuiet settings.idle) well.tells e.0.because.1 in
      omega (arith, many, few)

  not_spent : (octets : ℕ) → EndsIn role settings (Ended.Spent octets) link → ⊥
  not_spent octets e =
      let few : octets_read well.log < settings.octets = well.fewer (not_released (shown (Ended.Spent octets) e)) in
      let all : octets_read well.log ≡ settings.octets = subst (HasRead settings.octets) well.tells e.0.because.1 in
      omega (arith, all, few)

-- ---- a run

module _ (role : Role) (settings : Settings) (before after : Seen) (well : EachOf before after (LinkGoesWell role settings)) where
  -- what ended a session has the status 0 or 7
  session_well : (cause : Ended) → cause ≢ Ended.WriteFault → SessionCause cause role settings before after → (ended_status cause ≡ 0) ⊎ (ended_status cause ≡ 7)
  session_well Ended.Released n c = inl refl
  session_well (Ended.Broken rule place) n c = absurd (not_broken role settings (after.state c.0) (well c.0 c.1 c.2) rule place c.3)
  session_well Ended.WriteFault n c = absurd (n refl)
  session_well Ended.WireFault n c = absurd (not_failed role settings (after.state c.0) (well c.0 c.1 c.2) c.3)
  session_well Ended.NoMemory n c = inr refl
  session_well (Ended.Refused code) n c = absurd (not_refused role settings (after.state c.0) (well c.0 c.1 c.2) code c.3)
  session_well (Ended.Cut left) n c = absurd (not_cut role settings (after.state c.0) (well c.0 c.1 c.2) left c.3)
  session_well (Ended.Idle reads) n c = let one : OneOf before after (EndsIn role settings (Ended.Idle reads)) = c.1 in absurd (not_idle role settings (after.state one.0) (well one.0 one.1 one.2) reads one.3)
  session_well (Ended.Spent octets) n c = absurd (not_spent role settings (after.state c.0) (well c.0 c.1 c.2) octets c.3)

  so : (status n : ℕ) → status ≡ n → (n ≡ 0) ⊎ (n ≡ 7) → (status ≡ 0) ⊎ (status ≡ 7)
  so status n e = elim [ inl w ↦ inl (e ∙ w) | inr w ↦ inr (e ∙ w) ]

  -- so has what ended the run, where no call for a link failed
  run_well : (asked : Type 0) (sessions : ℕ) (cause : Ended) (status : ℕ) → (asked → ⊥) → cause ≢ Ended.WriteFault → status ≡ ended_status cause → RunCause asked sessions cause role settings before after → (status ≡ 0) ⊎ (status ≡ 7)
  run_well asked sessions cause status none n e (asking is failed) = absurd (none failed)
  run_well asked sessions cause status none n e (session c all) = so status (ended_status cause) e (session_well cause n c)

-- ---- `send`

-- of lines within the limits none is bad
not_bad : (octets read : List ℕ) (number : ℕ) (from to : SourceState) → from.left ≡ Some octets → AreLines (lines_of octets) octets → Consumes from.left to.left read → IsBad read number to → ⊥
not_bad octets read number from to e w c (inputs.long ended l) =
    let all = read_first octets read from.left to.left e c in
    let none : all.0 ≡ [] = at_end to.left all.0 all.2 ended.1 in
    let same : octets ≡ read = all.1 ∙ ap (λ x. read ++ x) none ∙ append-nil read in
    let two : None ≡ Some number = sym (subst (λ (os : List ℕ). AreLines (lines_of os) os) same w).none_long ∙ l.long in
    absurd (cc)
not_bad octets read number from to e w c (inputs.past p) =
    let all = read_first octets read from.left to.left e c in
    omega (arith, w.few, p.past, ap length all.1, length-append read all.0)

module _ (settings : Settings) (before after : Seen) (run : Run) (w : SendGoesWell settings before after run) where
  report_well : (read text : List ℕ) (status : ℕ) → Consumes run.source.left run.source_after.left read → IsSendReport settings run.source run.source_after before after read text status → (status ≡ 0) ⊎ (status ≡ 7)
  report_well read text status c (over ended lines are cause n m by sends e t) = run_well Role.Initiator settings before after w.links _ 1 cause status (λ failed. w.no_dial failed.0) n e by
  report_well read text status c (bad_input number bad e t same) = absurd (not_bad w.octets read number run.source run.source_after w.tells w.are_lines c bad)
  report_well read text status c (unread_input rose e t same) = absurd (w.no_fault.read rose)

  -- where all goes well `send` ends with 0, or out of memory
  pub send_well : (status : ℕ) → Sent settings before after status run → (status ≡ 0) ⊎ (status ≡ 7)
  send_well status (send_written sees) = report_well sees.octets sees.text status sees.consumed sees.holds
  send_well status (send_begun e rose sees) = absurd (w.no_fault.write rose)
  send_well status (send_starved e sees) = inr e

-- ---- `listen`

-- where all goes well so does `listen`
pub listen_well : (settings : Settings) (before after : Seen) (run : Run) (status : ℕ) → ListenGoesWell settings before after run.sink run.sink_after → Listened settings before after status run → (status ≡ 0) ⊎ (status ≡ 7)
listen_well settings before after run status w (listen_written cause n m by e line) = run_well Role.Listener settings before after w.links _ settings.sessions cause status w.no_accept n e by
listen_well settings before after run status w (listen_unwritten e rose) = absurd (w.no_write rose)
listen_well settings before after run status w (listen_starved e) = inr e
