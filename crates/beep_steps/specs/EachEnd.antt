-- What holds of the link of an end, by its log: the definition of a whole end, over the log that
-- the link keeps (RFC 3080, section 2; RFC 3195, section 3).
-- The code keeps no log.
use Rattle.std.specs.Prelude.{ℕ, List, [], ◌∷◌, Option, None, Some}
use Rattle.beep_session.specs.beep_frame.specs.declared.rule.Rule.{Rule}
use Rattle.beep_session.specs.beep_journal.specs.Log.{Entry as LogEntry, read as log_read, wrote as log_wrote, quiet as log_quiet, ended as log_ended}
use Rattle.beep_desk.specs.beep_script.specs.EachEnd.{EachEnd}
use Rattle.beep_desk.specs.beep_talk.specs.Plan.{PlainPlan}
use Rattle.beep_link.specs.beep_wires.specs.Log.{Entry, read, wrote, quiet, ended}
use Rattle.beep_link.specs.declared.ended.Ended.{Ended}

-- the log of a session that the log of a link is
abbrev pub log_of : List Entry → List LogEntry
log_of [] = []
log_of (read octets ∷ log) = log_read octets ∷ log_of log
log_of (wrote octets ∷ log) = log_wrote octets ∷ log_of log
log_of (quiet ∷ log) = log_quiet ∷ log_of log
log_of (ended ∷ log) = log_ended ∷ log_of log

-- the broken rule that ended a session, with its octet modulo 2^64, where one did
abbrev pub broken_by : Ended → Option (Rule × ℕ)
broken_by Ended.Released = None
broken_by (Ended.Broken rule place) = Some (rule, place)
broken_by Ended.WriteFault = None
broken_by Ended.WireFault = None
broken_by Ended.NoMemory = None
broken_by (Ended.Refused code) = None
broken_by (Ended.Cut left) = None
broken_by (Ended.Idle count) = None
broken_by (Ended.Spent count) = None

-- an end that has this to do, and ended so, kept its part on the link with this log
abbrev pub EachEndOn : PlainPlan → Ended → List Entry → Type 0
EachEndOn plan cause log = EachEnd plan (broken_by cause) (log_of log)
