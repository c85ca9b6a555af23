-- What the log of a run is replayed to: never that what was written breaks a rule, and otherwise by
-- what ended the run (RFC 3080, section 2.2.1).
-- The code judges the log anew, and knows of no run.
use Rattle.std.specs.Prelude.{◌≡◌, ℕ, ◌+◌, ◌≤◌, ◌<◌, List, [], ◌∷◌, length}
use Rattle.beep_listener.specs.beep_frame.specs.Modulo.{modulo_2_64}
use Rattle.beep_listener.specs.beep_wires.specs.Log.{Entry, read, wrote, quiet, ended}
use Rattle.beep_recorder.specs.beep_record.specs.declared.verdict.Verdict.{Verdict}
use Rattle.beep_listener.specs.beep_link.specs.declared.ended.Ended.{Ended}
use Rattle.beep_listener.specs.beep_link.specs.Causes.{octets_read}

-- no rule is broken by what was written
abbrev pub IsUnwritten : Verdict → Type 0
IsUnwritten Verdict.Fine = Unit {0}
IsUnwritten (Verdict.Broken rule place) = Unit {0}
IsUnwritten (Verdict.Written rule place) = ⊥

-- the octet of this number, modulo 2^64, came in the latest entry, a read
abbrev pub IsOfLastRead : List Entry → ℕ → Type 0
IsOfLastRead [] place = ⊥
IsOfLastRead (read octets ∷ log) place = (number : ℕ) × (place ≡ modulo_2_64 number)
    × (octets_read log ≤ number) × (number < octets_read log + length octets)
IsOfLastRead (wrote octets ∷ log) place = ⊥
IsOfLastRead (quiet ∷ log) place = ⊥
IsOfLastRead (ended ∷ log) place = ⊥

-- no rule is broken, but perhaps by an octet of the latest read
abbrev pub IsFineBefore : List Entry → Verdict → Type 0
IsFineBefore log Verdict.Fine = Unit {0}
IsFineBefore log (Verdict.Broken rule place) = IsOfLastRead log place
IsFineBefore log (Verdict.Written rule place) = ⊥

-- the verdict on the log of a run that this ended
abbrev pub IsReplayedTo : Ended → List Entry → Verdict → Type 0
IsReplayedTo Ended.Released log verdict = verdict ≡ Verdict.Fine
IsReplayedTo (Ended.Broken rule place) log verdict = verdict ≡ Verdict.Broken rule place
IsReplayedTo Ended.WriteFault log verdict = IsFineBefore log verdict
IsReplayedTo Ended.WireFault log verdict = verdict ≡ Verdict.Fine
IsReplayedTo Ended.NoMemory log verdict = IsFineBefore log verdict
IsReplayedTo (Ended.Refused code) log verdict = IsFineBefore log verdict
IsReplayedTo (Ended.Cut left) log verdict = verdict ≡ Verdict.Fine
IsReplayedTo (Ended.Idle reads) log verdict = verdict ≡ Verdict.Fine
IsReplayedTo (Ended.Spent octets) log verdict = verdict ≡ Verdict.Fine
