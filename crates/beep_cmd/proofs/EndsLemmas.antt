-- The reports of `send` and `listen`, with their last lines.
use Rattle.std.proofs.Common.{◌≡◌, ◌≢◌, ℕ, ◌≤◌, List, [], inl, inr, refl, sym, subst, arith}
use Rattle.std.specs.Io.KnownBytes.{Consumes}
use Rattle.std.proofs.KnownBytes.{Appends-nil, Appends-trans, Consumes-nil}
use Rattle.beep_runs.specs.beep_wires.specs.Counts.{Rose}
use Rattle.beep_runs.specs.beep_wires.specs.States.{SourceState, SinkState}
use Rattle.beep_runs.specs.beep_link.specs.declared.ended.Ended.{Ended}
use Rattle.beep_runs.specs.beep_link.specs.Causes.{Grows, IsWritten, Seen}
use Rattle.beep_runs.specs.beep_settings.specs.declared.settings.Settings.{Settings}
use Rattle.beep_show.specs.beep_input.specs.Lines.{IsUnlisted}
use Rattle.beep_show.specs.beep_input.specs.declared.lines.Unlisted.{Unlisted}
use Rattle.beep_cmd.specs.Serving.{unlisted_line, unlisted_status}
use Rattle.beep_show.specs.Texts.{bad_line, read_fault_line}
use Rattle.beep_show.specs.Show.{Run, run_of}
use Rattle.beep_cmd.specs.Ends.{ended_status, ended_line, ListenCause, IsSendReport, bad_input, unread_input, Sent, send_written, send_begun, send_starved, Listened, listen_written, listen_unwritten, listen_starved, WritesLast, whole_line, line_begun}

-- ---- `send`

module _ (settings : Settings) (before after : Seen) (run : Run) (octets : List ℕ) (consumed : Consumes run.source.left run.source_after.left octets) where
  -- a report whose last line was written, or begun
  pub sent : (status : ℕ) (line : List ℕ) (result : ℕ) → IsSendReport settings run.source run.source_after before after octets line status → WritesLast status line result run.sink run.sink_after → Sent settings before after result run
  sent status line result report (whole_line is appended) =
      send_written (record { octets = octets; text = line; consumed = consumed; appended = appended; holds = subst (λ (s : ℕ). IsSendReport settings run.source run.source_after before after octets line s) (sym is) report })
  sent status line result report (line_begun is some rose prefix) =
      send_begun is rose (record {
        octets = octets;
        text = prefix.0;
        consumed = consumed;
        appended = prefix.3;
        holds = record { status = status; others = prefix.1; some = subst (λ (t : List ℕ). t ≢ []) prefix.2 some; report = subst (λ (t : List ℕ). IsSendReport settings run.source run.source_after before after octets t status) prefix.2 report };
      })

  absurd_status : (result : ℕ) → result ≡ 7 → result ≡ 5 → ⊥
  absurd_status result e f = absurd (omega (arith, e, f))

  starved : after ≡ before → (result : ℕ) → result ≡ 7 → WritesLast 7 [] result run.sink run.sink_after → Sent settings before after result run
  starved same result e (whole_line is appended) = send_starved e (record { octets = octets; text = []; consumed = consumed; appended = appended; holds = (refl, inl same) })
  starved same result e (line_begun is some rose prefix) = absurd (absurd_status result e is)

-- why there are no lines to send was line_written
pub unsent : (settings : Settings) (before : Seen) (run : Run) (why : Unlisted) (result : ℕ) → IsUnlisted why run.source run.source_after → WritesLast (unlisted_status why) (unlisted_line why) result run.sink run.sink_after
    → (unlisted_line why ≡ [] → (result ≡ unlisted_status why) × (run.sink_after.faults ≡ run.sink.faults)) → Sent settings before before result run
unsent settings before run (Unlisted.Bad number) result u t s = sent settings before before run u.octets u.consumed 2 (bad_line number) result (bad_input number u.bad refl refl refl) t
unsent settings before run Unlisted.Fault result u t s = sent settings before before run u.1.octets u.1.consumed 4 read_fault_line result (unread_input u.0 refl refl refl) t
unsent settings before run Unlisted.NoMemory result u t s = starved settings before before run u.0 u.1 refl result (s refl).0 t

-- ---- `listen`

pub rose_later : (a b c : ℕ) → a ≤ b → Rose b c → Rose a c
rose_later a b c h = elim [ inl w ↦ inl (omega (arith, h, w)) | inr w ↦ inr w ]

module _ (settings : Settings) (before after : Seen) (source : SourceState) (sink mid sink_after : SinkState) (result : ℕ) (kept : sink.faults ≤ mid.faults) (grew : Grows sink.written mid.written) where
  line_written : (cause : Ended) → cause ≢ Ended.WriteFault → cause ≢ Ended.NoMemory → ListenCause cause settings before after → WritesLast (ended_status cause) (ended_line cause) result mid sink_after → Listened settings before after result (run_of source source sink sink_after)
  line_written cause n m c (whole_line is appended) = listen_written cause n m c is (λ plain. (grew.0, Appends-trans sink.written mid.written sink_after.written grew.0 (ended_line cause) grew.1 appended))
  line_written cause n m c (line_begun is some rose prefix) = listen_unwritten is (rose_later sink.faults mid.faults sink_after.faults kept rose)

  -- the last line of what ended the run was written, or begun; there may be none
  pub listened : (cause : Ended) → ListenCause cause settings before after → IsWritten cause sink.faults mid.faults → WritesLast (ended_status cause) (ended_line cause) result mid sink_after
      → (ended_line cause ≡ [] → (result ≡ ended_status cause) × (sink_after.faults ≡ mid.faults)) → Listened settings before after result (run_of source source sink sink_after)
  listened Ended.WriteFault c w t s = listen_unwritten (s refl).0 (subst (λ (n : ℕ). Rose sink.faults n) (sym (s refl).1) (w refl))
  listened Ended.NoMemory c w t s = listen_starved (s refl).0
  listened Ended.Released c w t s = line_written Ended.Released (λ e. cc) (λ e. cc) c t
  listened (Ended.Broken rule place) c w t s = line_written (Ended.Broken rule place) (λ e. cc) (λ e. cc) c t
  listened Ended.WireFault c w t s = line_written Ended.WireFault (λ e. cc) (λ e. cc) c t
  listened (Ended.Refused code) c w t s = line_written (Ended.Refused code) (λ e. cc) (λ e. cc) c t
  listened (Ended.Cut left) c w t s = line_written (Ended.Cut left) (λ e. cc) (λ e. cc) c t
  listened (Ended.Idle reads) c w t s = line_written (Ended.Idle reads) (λ e. cc) (λ e. cc) c t
  listened (Ended.Spent octets) c w t s = line_written (Ended.Spent octets) (λ e. cc) (λ e. cc) c t

-- ---- out of memory before anything was done

pub starved_at_once : (settings : Settings) (before : Seen) (source : SourceState) (sink : SinkState) → Sent settings before before 7 (run_of source source sink sink)
starved_at_once settings before source sink = send_starved refl (record { octets = []; text = []; consumed = Consumes-nil source.left; appended = Appends-nil sink.written; holds = (refl, inl refl) })
