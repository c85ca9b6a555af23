-- One session of `listen` after another, for the proofs of its run.
-- No contract of a public call cites it.
use Rattle.std.specs.Prelude.{◌≡◌, ℕ, ◌+◌, ◌<◌, ◌≤◌, ◌⊎◌, Option, None, Some, List, [], ◌++◌, length}
use Rattle.std.specs.List.{AllByRecursion}
use Rattle.std.specs.Io.KnownBytes.{Appends}
use Rattle.beep_runs.specs.beep_wires.specs.Counts.{Rose}
use Rattle.beep_runs.specs.beep_wires.specs.Links.{Asked}
use Rattle.beep_runs.specs.beep_link.specs.declared.ended.Ended.{Ended}
use Rattle.beep_runs.specs.beep_link.specs.Causes.{Seen, WhereKnown}
use Rattle.beep_runs.specs.beep_settings.specs.declared.settings.Settings.{Settings}
use Rattle.beep_show.specs.beep_input.specs.declared.lines.Unlisted.{Unlisted}
use Rattle.beep_runs.specs.beep_journal.specs.declared.role.Role.{Role}
use Rattle.beep_show.specs.Texts.{bad_line, read_fault_line}
use Rattle.beep_cmd.specs.Ends.{AsksOnly, GaveLink, HasCause, IsAcceptOf, open_of, SessionCause}
use Rattle.beep_cmd.specs.Listening.{Session, SessionsOver, text_of, WritesOf}

-- the status and the last line where there are no lines to send
abbrev pub unlisted_status : Unlisted → ℕ
unlisted_status (Unlisted.Bad number) = 2
unlisted_status Unlisted.Fault = 4
unlisted_status Unlisted.NoMemory = 7

abbrev pub unlisted_line : Unlisted → List ℕ
unlisted_line (Unlisted.Bad number) = bad_line number
unlisted_line Unlisted.Fault = read_fault_line
unlisted_line Unlisted.NoMemory = []

-- what happened on links since then: those that were given before stay, and no count falls
pub record GoesOn (before after : Seen) : Type 0 where
  pub same : (link : ℕ) → link < before.counts.given → after.state link ≡ before.state link
  pub given : before.counts.given ≤ after.counts.given
  pub accepts : before.counts.accepts ≤ after.counts.accepts
  pub quiets : before.counts.quiets ≤ after.counts.quiets

-- where the accepts and dials are known, there were no more than so many, of each this holds, and
-- each gave a link
abbrev pub AsksGave : (Asked → Type 0) → ℕ → Option (List Asked) → Option (List Asked) → Type 0
AsksGave P most None None = Unit {0}
AsksGave P most None (Some new) = ⊥
AsksGave P most (Some old) None = ⊥
AsksGave P most (Some old) (Some new) = (more : List Asked) × (new ≡ more ++ old)
    × (length more ≤ most) × AllByRecursion (λ asked. P asked × GaveLink asked) more

-- a link was accepted, and its session ended by this
pub record Served (cause : Ended) (settings : Settings) (before after : Seen) : Type 0 where
  pub goes_on : GoesOn before after
  pub one : after.counts.given ≡ before.counts.given + 1
  pub cause_is : SessionCause cause Role.Listener settings before after
  pub asks : AsksGave (IsAcceptOf settings (open_of before)) 1 before.asked after.asked

-- no link was given
pub record NotAccepted (cause : Ended) (settings : Settings) (before after : Seen) : Type 0 where
  pub goes_on : GoesOn before after
  pub none : after.counts.given ≡ before.counts.given
  pub failed : (cause ≡ Ended.WireFault) × Rose before.counts.accepts after.counts.accepts
      ⊎ (cause ≡ Ended.NoMemory)
  pub asks : AsksOnly (IsAcceptOf settings (open_of before)) 1 before.asked after.asked

-- ---- what is written

-- the session of the link that was accepted, which ended so, as the link shows, wrote its lines
pub record WritesSession (settings : Settings) (cause : Ended) (before after : Seen)
    (old new : Option (List ℕ)) : Type 0 where
  pub text : List ℕ
  pub lines : Appends old new text
  pub writes : WhereKnown (WritesOf settings (record { cause = cause; text = text }))
      (after.state before.counts.given).log
  pub because : HasCause settings cause (after.state before.counts.given)

-- the sessions of a run so far, of which this holds, wrote their lines
pub record WritesSessions (settings : Settings) (before after : Seen)
    (P : List Session → Type 0) (old new : Option (List ℕ)) : Type 0 where
  pub sessions : List Session
  pub over : SessionsOver settings after.state before.counts.given sessions after.counts.given
  pub ends : P sessions
  pub lines : Appends old new (text_of sessions)
