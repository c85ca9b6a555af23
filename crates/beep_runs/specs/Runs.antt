-- A run over one link that is recorded: what became of the link, by all that is known of links
-- before the run and after it.
-- The code hands on what ended the session.
use Rattle.std.specs.Prelude.{◌≡◌, ◌≢◌, ℕ, ◌+◌, ◌*◌, ◌≤◌, ◌<◌, ◌⊎◌, false, Option, List, Result, IfOk, IfErr, chars}
use Rattle.std.specs.Borrow.{GName}
use Rattle.beep_listener.specs.beep_wires.specs.declared.links.WireError.{WireError}
use Rattle.beep_listener.specs.beep_wires.specs.declared.count.TheConstants.{COUNT_MAX}
use Rattle.beep_listener.specs.beep_wires.specs.Counts.{Rose}
use Rattle.beep_listener.specs.beep_wires.specs.Links.{Link, Counts, Ask, accept, dial, Asked, Asks, asked_by, open_among, IsFresh, SameBeside}
use Rattle.beep_listener.specs.beep_journal.specs.declared.role.Role.{Role}
use Rattle.beep_listener.specs.beep_session.specs.beep_octets.specs.Held.{Held}
use Rattle.beep_listener.specs.beep_settings.specs.declared.settings.Settings.{Settings}
use Rattle.beep_listener.specs.beep_link.specs.declared.ended.Ended.{Ended}
use Rattle.beep_listener.specs.beep_link.specs.Causes.{IsBounded, IsCaused, Seen, WhereKnown}
use Rattle.beep_listener.specs.beep_steps.specs.Ends.{reads_of}
use Rattle.beep_listener.specs.beep_steps.specs.EachEnd.{EachEndOn}
use Rattle.beep_listener.specs.beep_steps.specs.Logs.{moments, IsLawfulOn, Shows, terms_by}
use Rattle.beep_listener.specs.beep_steps.specs.Refusing.{GoesUnrefused, ReadsOnlyGoing}
use Rattle.beep_listener.specs.beep_steps.specs.Resting.{AreShort, TellsIdle}
use Rattle.beep_listener.specs.beep_steps.specs.Sending.{sender_plan, SendsAll}
use Rattle.beep_listener.specs.Listening.{listener_plan}
use Rattle.beep_recorder.specs.Kept.{RecordsLink}

-- what is known of links
abbrev pub seen_of : (ℕ → Link) → Counts → Option (List Asked) → Option GName → Seen
seen_of state counts asked lent =
    record { state = state; counts = counts; asked = asked; lent = lent }

-- what is known of these links, by what each of these words says of them
abbrev pub seen_by : {W : Type 0} → (W → ℕ → Link) → (W → Counts) → (W → Option (List Asked))
    → (W → Option GName) → W → Seen
seen_by state counts asked lent wires =
    seen_of (state wires) (counts wires) (asked wires) (lent wires)

-- how often a link is read at most: as many reads for each octet that may be read as may be quiet,
-- one after another, since fewer of them come before one that gives some
abbrev pub most_reads : Settings → ℕ
most_reads settings = settings.octets * settings.idle

-- a link was given, the session of an end of this role on it ended by this, unless memory ran out
-- after it ended, and it was shut: what its log shows where it is known, that no more and no more
-- often was read than the settings allow, that each read was counted, and that nothing else changed
pub record Ran (role : Role) (settings : Settings) (cause : Ended) (before after : Seen)
    : Type 0 where
  pub fresh : Link
  pub last : Link
  pub is_fresh : IsFresh fresh
  pub ended : Ended
  pub ended_is : (cause ≡ ended) ⊎ (cause ≡ Ended.NoMemory)
  pub caused : IsCaused ended (reads_of settings)
      (record { link = fresh; quiets = before.counts.quiets })
      (record { link = last; quiets = after.counts.quiets })
  pub lawful : WhereKnown (IsLawfulOn (terms_by role settings)) last.log
  pub shown : WhereKnown (Shows (terms_by role settings) cause) last.log
  pub bounded : IsBounded (reads_of settings) last.log
  pub reads : last.reads ≤ most_reads settings
  pub exact : last.reads < COUNT_MAX
  pub shut : after.state before.counts.given ≡ record last { is_open = false }
  pub given : after.counts.given ≡ before.counts.given + 1
  pub others : SameBeside before.counts.given before.state after.state

-- the log of the link that was given shows that all lines were sent, where the session was
-- released, that the peer refused nothing where that didn't end it, nor wherever was read, whatever
-- ended it, and that the sender kept its whole part, and had nothing to send where the settings
-- ended it, where its lines are short
pub record SentAll (settings : Settings) (lines : List (List ℕ)) (cause : Ended)
    (before after : Seen) : Type 0 where
  pub all : cause ≡ Ended.Released
      → WhereKnown (SendsAll (sender_plan settings lines)) (after.state before.counts.given).log
  pub unrefused : WhereKnown (GoesUnrefused (terms_by Role.Initiator settings) cause)
      (after.state before.counts.given).log
  pub waits : WhereKnown (ReadsOnlyGoing (terms_by Role.Initiator settings))
      (after.state before.counts.given).log
  pub rested : AreShort lines
      → WhereKnown (λ log. TellsIdle (sender_plan settings lines) cause (moments log))
      (after.state before.counts.given).log
  pub each : AreShort lines → WhereKnown (EachEndOn (sender_plan settings lines) cause)
      (after.state before.counts.given).log

-- the log of the link that was given shows that the peer refused nothing where that didn't end it,
-- nor wherever was read, that the listener kept its whole part, whatever ended it, and that it had
-- nothing to send where the settings ended it
pub record HasListened (settings : Settings) (cause : Ended) (before after : Seen) : Type 0 where
  pub unrefused : WhereKnown (GoesUnrefused (terms_by Role.Listener settings) cause)
      (after.state before.counts.given).log
  pub waits : WhereKnown (ReadsOnlyGoing (terms_by Role.Listener settings))
      (after.state before.counts.given).log
  pub rested : WhereKnown (λ log. TellsIdle (listener_plan settings) cause (moments log))
      (after.state before.counts.given).log
  pub each : WhereKnown (EachEndOn (listener_plan settings) cause)
      (after.state before.counts.given).log

-- no link was given, for this reason, where the count of such faults was that and is this
pub record NotGiven (cause : Ended) (old new : ℕ) (before after : Seen) : Type 0 where
  pub why : ((cause ≡ Ended.WireFault) × Rose old new) ⊎ (cause ≡ Ended.NoMemory)
  pub given : after.counts.given ≡ before.counts.given
  pub same : (link : ℕ) → after.state link ≡ before.state link

-- how many links are open of those that were given
abbrev pub open_of : Seen → ℕ
open_of seen = open_among seen.state seen.counts.given

-- this was asked, once, where it is known what was asked
abbrev pub AsksThis : Ask → Seen → Seen → Type 0
AsksThis ask before after =
    (r : Result ℕ WireError) × Asks before.asked after.asked (asked_by ask (open_of before) r)

-- where memory sufficed the octets gained are the record of the link that was given; else none were
-- gained
pub record IsRecorded (role : Role) (cause : Ended) (before after : Seen) (old new : List ℕ)
    : Type 0 where
  pub whole : cause ≢ Ended.NoMemory
      → RecordsLink (after.state before.counts.given) role old new
  pub none : cause ≡ Ended.NoMemory → new ≡ old

-- ---- a run

-- what a run that sends lines leaves: it answers what ended the session, or why there was none
pub record SendsOver (settings : Settings) (lines : List (List ℕ)) (result : Result Ended Ended)
    (before after : Seen) (old new : Held) : Type 0 where
  -- what became of the link, and what its log shows of the end of the session
  pub ran : IfOk result (λ ended. Ran Role.Initiator settings ended before after)
  -- what its log shows of the lines, and of the whole session
  pub sent : IfOk result (λ ended. SentAll settings lines ended before after)
  -- the octets gained are its record
  pub recorded : IfOk result (λ ended.
      IsRecorded Role.Initiator ended before after old.octets new.octets)
  -- why no link was given
  pub failed : IfErr result (λ ended.
      NotGiven ended before.counts.dials after.counts.dials before after)
  -- where none was, nothing is gained, and the room stays
  pub same_out : IfErr result (λ ended. new ≡ old)
  -- what was asked for: a link to the host and the port that are set
  pub asks : (host : List ℕ) × (chars host ≡ settings.host)
      × AsksThis (dial host settings.port) before after
  -- no output is the cause of an end
  pub unwritten : IfOk result (λ ended. ended ≢ Ended.WriteFault)

-- what a run that listens leaves: it answers what ended the session, or why there was none
pub record ListensOver (settings : Settings) (result : Result Ended Ended) (before after : Seen)
    (old new : Held) : Type 0 where
  -- what became of the link, and what its log shows of the end of the session
  pub ran : IfOk result (λ ended. Ran Role.Listener settings ended before after)
  -- what its log shows of the whole session
  pub listened : IfOk result (λ ended. HasListened settings ended before after)
  -- the octets gained are its record
  pub recorded : IfOk result (λ ended.
      IsRecorded Role.Listener ended before after old.octets new.octets)
  -- why no link was given
  pub failed : IfErr result (λ ended.
      NotGiven ended before.counts.accepts after.counts.accepts before after)
  -- where none was, nothing is gained, and the room stays
  pub same_out : IfErr result (λ ended. new ≡ old)
  -- what was asked for: a link on the address and the port that are set
  pub asks : (bind : List ℕ) × (chars bind ≡ settings.bind)
      × AsksThis (accept bind settings.port) before after
  -- no output is the cause of an end
  pub unwritten : IfOk result (λ ended. ended ≢ Ended.WriteFault)
