-- A run of `send` or `listen` in which all goes well (RFC 3080, section 2.3.1; RFC 3195, section
-- 3).
-- The code knows of no such run; here it is read off the input, the counts of faults and the log of
-- each link, after the run.
use Rattle.std.specs.Prelude.{◌≡◌, ◌≢◌, ℕ, ◌<◌, true, false, None, Some, List}
use Rattle.beep_runs.specs.beep_history.specs.declared.journal.Side.{Side}
use Rattle.beep_runs.specs.beep_journal.specs.declared.role.Role.{Role}
use Rattle.beep_runs.specs.beep_journal.specs.Broken.{none_tunes}
use Rattle.beep_runs.specs.beep_journal.specs.Journal.{Fault, Past, Shows}
use Rattle.beep_runs.specs.beep_journal.specs.Life.{is_released}
use Rattle.beep_runs.specs.beep_wires.specs.Counts.{Rose}
use Rattle.beep_runs.specs.beep_wires.specs.Links.{Link}
use Rattle.beep_runs.specs.beep_wires.specs.Log.{Entry}
use Rattle.beep_runs.specs.beep_wires.specs.States.{SinkState}
use Rattle.beep_runs.specs.beep_link.specs.Causes.{octets_read, quiet_reads, Seen}
use Rattle.beep_runs.specs.beep_settings.specs.declared.settings.Settings.{Settings}
use Rattle.beep_runs.specs.beep_steps.specs.beep_script.specs.Refused.{refusal}
use Rattle.beep_runs.specs.beep_steps.specs.Logs.{command_of, moments}
use Rattle.beep_show.specs.beep_input.specs.Lines.{AreLines, lines_of}
use Rattle.beep_show.specs.Show.{NoFault, Run}
use Rattle.beep_cmd.specs.Ends.{EachOf}

-- all went well on a link of an end of this role, which tells its log: no read and no write of it
-- failed; in the session that the log shows the peer broke no rule and refused nothing; the link
-- ended only where that session is released; and where it isn't, of the latest reads fewer than the
-- setting `idle` were quiet, one after another, and fewer octets were read than the setting
-- `octets`
pub record LinkGoesWell (role : Role) (settings : Settings) (link : Link) : Type 0 where
  pub log : List Entry
  pub tells : link.log ≡ Some log
  pub unfailed : link.faults ≡ 0
  pub past : Past
  pub shows : Shows none_tunes (moments log) past
  pub unbroken : (fault : Fault) → past.fault ≡ Some fault → fault.side ≢ Side.Received
  pub unrefused : refusal (command_of role) past.journal ≡ None
  pub uncut : link.has_ended ≡ true → is_released past.journal ≡ true
  pub heard : is_released past.journal ≡ false → quiet_reads log < settings.idle
  pub fewer : is_released past.journal ≡ false → octets_read log < settings.octets

-- the source of `send` tells its octets, and they are lines within the limits; no count of faults
-- rose, that of dials among them; and all went well on each link that was given in the run
pub record SendGoesWell (settings : Settings) (before after : Seen) (run : Run) : Type 0 where
  pub octets : List ℕ
  pub tells : run.source.left ≡ Some octets
  pub are_lines : AreLines (lines_of octets) octets
  pub no_fault : NoFault run
  pub no_dial : Rose before.counts.dials after.counts.dials → ⊥
  pub links : EachOf before after (LinkGoesWell Role.Initiator settings)

-- no count of faults rose, of the sink and of accepts; and all went well on each link that was
-- given in the run: `listen` reads no input
pub record ListenGoesWell (settings : Settings) (before after : Seen) (old new : SinkState)
    : Type 0 where
  pub no_write : Rose old.faults new.faults → ⊥
  pub no_accept : Rose before.counts.accepts after.counts.accepts → ⊥
  pub links : EachOf before after (LinkGoesWell Role.Listener settings)
