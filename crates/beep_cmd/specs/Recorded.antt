-- What `send` and `listen` write at the end of a run: the last line of its status, or the record of
-- its link (docs/FORMATS.md, "Records").
-- The code keeps the log of the link as it goes; here it is that of the link, where it is
-- known.
use Rattle.std.specs.Prelude.{◌≡◌, ◌⊎◌, ℕ, ◌+◌, Bool, true, false, Some, List}
use Rattle.beep_runs.specs.beep_journal.specs.declared.role.Role.{Role}
use Rattle.beep_runs.specs.beep_journal.specs.Log.{Entry, flat}
use Rattle.beep_runs.specs.beep_record.specs.Record.{ArePieces, IsRecord, record_text}
use Rattle.beep_runs.specs.beep_wires.specs.Log.{Entry as LinkEntry}
use Rattle.beep_runs.specs.beep_wires.specs.Links.{Link}
use Rattle.beep_runs.specs.beep_link.specs.Causes.{Seen}
use Rattle.beep_runs.specs.beep_recorder.specs.Said.{log_said}

-- the text is the record, of this end and with this status, of what happened on a link: of some
-- log, and of the link's own where that is known; what is longer than a line is cut into lines,
-- which the flat log doesn't show
pub record IsRecordOf (role : Role) (link : Link) (status : ℕ) (text : List ℕ) : Type 0 where
  pub log : List Entry
  pub logged : (entries : List LinkEntry) → link.log ≡ Some entries → log ≡ log_said entries
  pub lines : List Entry
  pub is_record : IsRecord (record { role = role; log = lines; status = Some status })
  pub flat_is : flat lines ≡ flat log
  pub same : ArePieces log → lines ≡ log
  pub text_is : text ≡ record_text (record { role = role; log = lines; status = Some status })

-- what is written at the end of a run of an end of this role: its last line; and where the run is
-- recorded and gave a link, the record of that link and nothing else
pub data IsEnding (recording : Bool) (role : Role) (before after : Seen) (status : ℕ)
    (line text : List ℕ) : Type 0 where
  lined : (recording ≡ false) ⊎ (after.counts.given ≡ before.counts.given) → text ≡ line
      → IsEnding recording role before after status line text
  recorded : recording ≡ true → after.counts.given ≡ before.counts.given + 1
      → IsRecordOf role (after.state before.counts.given) status text
      → IsEnding recording role before after status line text
