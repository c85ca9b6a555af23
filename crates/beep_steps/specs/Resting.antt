-- Where a listener has nothing more to say by itself: no frame and no SEQ may go out, and on each
-- channel what is owed is refused, or waits after what may not go out either (RFC 3080, section
-- 2.6.1; RFC 3081, section 3.1).
-- The code looks at each live channel, and keeps no list of what it owes.
use Rattle.std.specs.Prelude.{◌≡◌, ◌≤◌, ℕ, nat_lt, Bool, true, false, not, ◌||◌, List, length, Some, slice_get}
use Rattle.beep_desk.specs.prof_raw.specs.declared.line.TheConstants.{ENTRY_MAX}
use Rattle.beep_session.specs.beep_journal.specs.Log.{Moment}
use Rattle.beep_session.specs.beep_channel.specs.Held.{Held as Channel, is_held_ready, is_seq_due_of}
use Rattle.beep_session.specs.beep_lives.specs.Lives.{live_at}
use Rattle.beep_session.specs.beep_speaking.specs.declared.emit.Emit.{Emit}
use Rattle.beep_session.specs.beep_peer.specs.Acts.{held_of}
use Rattle.beep_session.specs.beep_peer.specs.Peering.{is_greeted, is_over, zero_waits}
use Rattle.beep_session.specs.Session.{Held}
use Rattle.beep_desk.specs.beep_script.specs.Prompt.{IsIdle}
use Rattle.beep_desk.specs.beep_talk.specs.Plan.{PlainPlan}
use Rattle.beep_link.specs.beep_wires.specs.Log.{Entry}
use Rattle.beep_link.specs.Causes.{ReadsWhere}
use Rattle.beep_link.specs.declared.ended.Ended.{Ended}
use Rattle.beep_steps.specs.Logs.{moments}

-- ---- a session

-- it goes on, and no message of channel zero waits
pub record IsAwake (session : Held) : Type 0 where
  pub going : is_over session.peer ≡ false
  pub settled : zero_waits session.peer ≡ false

-- nothing may go out: no frame, and no SEQ once the own greeting has gone
pub record HasSaidAll (session : Held) : Type 0 where
  pub no_frame : (n : ℕ) (channel : Channel)
      → held_of (live_at n session.peer.lives) ≡ Some channel → is_held_ready channel ≡ false
  pub no_seq : is_greeted session.peer.management ≡ true → (n : ℕ) (channel : Channel)
      → held_of (live_at n session.peer.lives) ≡ Some channel → is_seq_due_of channel ≡ false

-- no request that was taken on a channel lacks a whole reply, or something is unsent there
abbrev pub has_replied : Channel → Bool
has_replied channel = not (nat_lt 0 channel.life.given.owed) || nat_lt 0 (length channel.queue)

-- so it is on the channel of a number
abbrev pub HasRepliedAt : ℕ → Held → Type 0
HasRepliedAt n session = (channel : Channel)
    → held_of (live_at n session.peer.lives) ≡ Some channel → has_replied channel ≡ true

-- each of these lines is so short that its answer finds room where nothing else is unsent
abbrev pub AreShort : List (List ℕ) → Type 0
AreShort lines = (place : ℕ) (line : List ℕ) → slice_get lines place ≡ Some line
    → length line ≤ ENTRY_MAX

-- while it goes on nothing may go out, and on the channel of a number nothing is owed that is to
-- be answered first
abbrev pub RestsAt : ℕ → Held → Type 0
RestsAt n session = IsAwake session → HasSaidAll session × HasRepliedAt n session

-- nothing is changed but room that was made
pub record HoldsStill (old new : Held) : Type 0 where
  pub ear : new.peer.ear ≡ old.peer.ear
  pub released : new.peer.released ≡ old.peer.released
  pub held : (n : ℕ) → held_of (live_at n new.peer.lives) ≡ held_of (live_at n old.peer.lives)
  pub greeted : is_greeted new.peer.management ≡ is_greeted old.peer.management

-- it found no room on the channel of a number, where something is unsent, and changed nothing
abbrev pub IsFullAt : ℕ → Held → Held → Type 0
IsFullAt n old new = HoldsStill old new × HasRepliedAt n new

-- ---- what a call leaves

-- where nothing went out nothing may
abbrev pub RestsAfter : Emit → Held → Type 0
RestsAfter (Emit.Data head) session = Unit {0}
RestsAfter (Emit.Seq seq) session = Unit {0}
RestsAfter Emit.Nothing session = IsAwake session → HasSaidAll session

-- ---- on the log

-- an end that is stopped by the settings had nothing of its script to send
abbrev pub TellsIdle : PlainPlan → Ended → List Moment → Type 0
TellsIdle plan Ended.Released log = Unit {0}
TellsIdle plan (Ended.Broken rule place) log = Unit {0}
TellsIdle plan Ended.WriteFault log = Unit {0}
TellsIdle plan Ended.WireFault log = Unit {0}
TellsIdle plan Ended.NoMemory log = Unit {0}
TellsIdle plan (Ended.Refused code) log = Unit {0}
TellsIdle plan (Ended.Cut left) log = Unit {0}
TellsIdle plan (Ended.Idle count) log = IsIdle plan log
TellsIdle plan (Ended.Spent count) log = IsIdle plan log

-- wherever the log of a link shows a read, a quiet one or the end of the link, nothing of the
-- script was due
abbrev pub IsPromptOn : PlainPlan → List Entry → Type 0
IsPromptOn plan log = ReadsWhere (λ before. IsIdle plan (moments before)) log
