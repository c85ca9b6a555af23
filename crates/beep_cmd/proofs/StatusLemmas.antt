-- No command that was read ends with status 1.
use Rattle.std.proofs.Common.{◌≡◌, ℕ, List, arith}
use Rattle.beep_runs.specs.beep_link.specs.declared.ended.Ended.{Ended}
use Rattle.beep_runs.specs.beep_link.specs.Causes.{Seen}
use Rattle.beep_runs.specs.beep_wires.specs.States.{SourceState}
use Rattle.beep_show.specs.beep_words.specs.declared.command.ShowSettings.{ShowSettings}
use Rattle.beep_show.specs.beep_words.specs.declared.command.PairSettings.{PairSettings}
use Rattle.beep_runs.specs.beep_settings.specs.declared.settings.Settings.{Settings}
use Rattle.beep_show.specs.Show as show
use Rattle.beep_show.specs.Show.{Run, Shown, IsReport}
use Rattle.beep_cmd.specs.Replay as replay
use Rattle.beep_cmd.specs.Replay.{Replayed, IsReplayReport, IsJudgement}
use Rattle.beep_cmd.specs.Pair as pair
use Rattle.beep_cmd.specs.Pair.{IsPairing, ReadsSchedule, IsPairReport, Paired}
use Rattle.beep_cmd.specs.Told as told
use Rattle.beep_cmd.specs.Told.{Told}
use Rattle.beep_cmd.specs.Ends as ends
use Rattle.beep_cmd.specs.Ends.{ended_status, IsSendReport, Sent, Listened}

report_not : (settings : ShowSettings) (old new : SourceState) (octets text : List ℕ) (status : ℕ) → IsReport settings old new octets text status → status ≡ 1 → ⊥
report_not settings old new octets text status (show.whole e h w) f = absurd (omega (arith, e, f))
report_not settings old new octets text status (show.broken e b) f = absurd (omega (arith, e, f))
report_not settings old new octets text status (show.read_fault e r b) f = absurd (omega (arith, e, f))
report_not settings old new octets text status (show.cut e h b) f = absurd (omega (arith, e, f))
report_not settings old new octets text status (show.spent e h b) f = absurd (omega (arith, e, f))

pub shown_not : (settings : ShowSettings) (status : ℕ) (run : Run) → Shown settings status run → status ≡ 1 → ⊥
shown_not settings status run (show.report s) f = report_not settings run.source run.source_after s.octets s.text status s.holds f
shown_not settings status run (show.write_fault e r s) f = absurd (omega (arith, e, f))
shown_not settings status run (show.no_memory e s) f = absurd (omega (arith, e, f))

judgement_not : (octets text : List ℕ) (status : ℕ) → IsJudgement octets text status → status ≡ 1 → ⊥
judgement_not octets text status (replay.fine e j) f = absurd (omega (arith, e, f))
judgement_not octets text status (replay.peer_fault e j) f = absurd (omega (arith, e, f))
judgement_not octets text status (replay.own_fault e j) f = absurd (omega (arith, e, f))
judgement_not octets text status (replay.bad e j) f = absurd (omega (arith, e, f))

replay_not : (old new : SourceState) (octets text : List ℕ) (status : ℕ) → IsReplayReport old new octets text status → status ≡ 1 → ⊥
replay_not old new octets text status (replay.judged h j) f = judgement_not octets text status j f
replay_not old new octets text status (replay.long e l) f = absurd (omega (arith, e, f))
replay_not old new octets text status (replay.unread e r u) f = absurd (omega (arith, e, f))

pub replayed_not : (status : ℕ) (run : Run) → Replayed status run → status ≡ 1 → ⊥
replayed_not status run (replay.reported s) f = replay_not run.source run.source_after s.octets s.text status s.holds f
replayed_not status run (replay.cut_short e r s) f = absurd (omega (arith, e, f))
replayed_not status run (replay.starved e s) f = absurd (omega (arith, e, f))

ended_not : (cause : Ended) → ended_status cause ≡ 1 → ⊥
ended_not Ended.Released e = absurd (omega (arith, e))
ended_not (Ended.Broken rule place) e = absurd (omega (arith, e))
ended_not Ended.WriteFault e = absurd (omega (arith, e))
ended_not Ended.WireFault e = absurd (omega (arith, e))
ended_not Ended.NoMemory e = absurd (omega (arith, e))
ended_not (Ended.Refused code) e = absurd (omega (arith, e))
ended_not (Ended.Cut left) e = absurd (omega (arith, e))
ended_not (Ended.Idle reads) e = absurd (omega (arith, e))
ended_not (Ended.Spent octets) e = absurd (omega (arith, e))

send_report_not : (settings : Settings) (old new : SourceState) (before after : Seen) (octets text : List ℕ) (status : ℕ) → IsSendReport settings old new before after octets text status → status ≡ 1 → ⊥
send_report_not settings old new before after octets text status (ends.over h lines a cause n m c s e t) f = ended_not cause (omega (arith, e, f))
send_report_not settings old new before after octets text status (ends.bad_input number b e t w) f = absurd (omega (arith, e, f))
send_report_not settings old new before after octets text status (ends.unread_input r e t w) f = absurd (omega (arith, e, f))

pub sent_not : (settings : Settings) (before after : Seen) (status : ℕ) (run : Run) → Sent settings before after status run → status ≡ 1 → ⊥
sent_not settings before after status run (ends.send_written s) f = send_report_not settings run.source run.source_after before after s.octets s.text status s.holds f
sent_not settings before after status run (ends.send_begun e r s) f = absurd (omega (arith, e, f))
sent_not settings before after status run (ends.send_starved e s) f = absurd (omega (arith, e, f))

pub listened_not : (settings : Settings) (before after : Seen) (status : ℕ) (run : Run) → Listened settings before after status run → status ≡ 1 → ⊥
listened_not settings before after status run (ends.listen_written cause n m c e l) f = ended_not cause (omega (arith, e, f))
listened_not settings before after status run (ends.listen_unwritten e r) f = absurd (omega (arith, e, f))
listened_not settings before after status run (ends.listen_starved e) f = absurd (omega (arith, e, f))

-- nor is 1 a status of `pair`
pairing_not : (settings : PairSettings) (octets text : List ℕ) (status : ℕ) → IsPairing settings octets text status → status ≡ 1 → ⊥
pairing_not settings octets text status (pair.runs e r) f = absurd (omega (arith, e, f))
pairing_not settings octets text status (pair.bad_schedule e b) f = absurd (omega (arith, e, f))

schedule_not : (settings : PairSettings) (old new : SourceState) (octets text : List ℕ) (status : ℕ) → ReadsSchedule settings old new octets text status → status ≡ 1 → ⊥
schedule_not settings old new octets text status (pair.whole h w p) f = pairing_not settings octets text status p f
schedule_not settings old new octets text status (pair.long e l) f = absurd (omega (arith, e, f))
schedule_not settings old new octets text status (pair.unread e r w t) f = absurd (omega (arith, e, f))

pair_not : (settings : PairSettings) (old new : SourceState) (octets text : List ℕ) (status : ℕ) → IsPairReport settings old new octets text status → status ≡ 1 → ⊥
pair_not settings old new octets text status (pair.read e r) f = schedule_not settings old new octets text status r f
pair_not settings old new octets text status (pair.made seed e s n m) f = absurd (omega (arith, s, f))

pub paired_not : (settings : PairSettings) (status : ℕ) (run : Run) → Paired settings status run → status ≡ 1 → ⊥
paired_not settings status run (pair.reported s) f = pair_not settings run.source run.source_after s.octets s.text status s.holds f
paired_not settings status run (pair.cut_short e r s) f = absurd (omega (arith, e, f))
paired_not settings status run (pair.starved e s) f = absurd (omega (arith, e, f))

pub told_not : (text : List ℕ) (status : ℕ) (run : Run) → Told text status run → status ≡ 1 → ⊥
told_not text status run (told.told e a) f = absurd (omega (arith, e, f))
told_not text status run (told.write_fault e r a) f = absurd (omega (arith, e, f))
