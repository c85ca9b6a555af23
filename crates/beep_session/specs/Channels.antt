-- What a program gives and takes on a live channel of a session (RFC 3080, section 2.1).
-- Each speaks of every journal for which the session stood: none is kept.
use Rattle.std.specs.Prelude.{◌≡◌, ℕ, ◌<◌, ◌||◌, Bool, false, List, IsSome}
use Rattle.std.specs.Option.{option_map_or}
use Rattle.beep_giving.specs.beep_frame.specs.declared.kind.Kind.{Kind}
use Rattle.beep_giving.specs.beep_history.specs.Journal.{Item}
use Rattle.beep_giving.specs.beep_inbox.specs.declared.part.Part.{Part}
use Rattle.beep_giving.specs.beep_lives.specs.Lives.{live_at}
use Rattle.beep_giving.specs.beep_standing.specs.Standing.{Marks}
use Rattle.beep_giving.specs.beep_asked.specs.Kept.{closes}
use Rattle.beep_giving.specs.beep_mgmt.specs.Message.{message_text}
use Rattle.beep_giving.specs.beep_answering.specs.Sent.{closing_of}
use Rattle.beep_giving.specs.beep_peer.specs.Peering.{IsPeer, is_over, zero_waits}
use Rattle.beep_giving.specs.beep_peer.specs.Acts.{IsUnchanged}
use Rattle.beep_giving.specs.Giving.{GivesMessage, TakesMarks}
use Rattle.beep_giving.specs.Looks.{answers_of}
use Rattle.beep_session.specs.Acts.{AsksZero}
use Rattle.beep_session.specs.Session.{Held}

-- the session goes on, no message of channel zero waits, and a channel above zero is live
pub record IsOpen (number : ℕ) (session : Held) : Type 0 where
  pub going : is_over session.peer ≡ false
  pub settled : zero_waits session.peer ≡ false
  pub above : 0 < number
  pub live : IsSome (live_at number session.peer.lives)

-- an own close of the live life of a number waits
abbrev pub is_closing : ℕ → Held → Bool
is_closing number session =
    closes number session.peer.management.mine.requests
    || closes number session.peer.management.acts.requests

-- the number of the next answer to the oldest request that is owed
abbrev pub next_answer : ℕ → Held → ℕ
next_answer number session =
    option_map_or (λ answers. answers) (answers_of (live_at number session.peer.lives)) 0

-- the peer alone may have changed
abbrev pub IsOfPeer : Held → Held → Type 0
IsOfPeer old new = new ≡ record old { peer = new.peer }

-- nothing is changed but room that was made
pub record IsStill (old new : Held) : Type 0 where
  pub peer : IsUnchanged old.peer new.peer
  pub same : IsOfPeer old new

-- a message was given in the life of this number, and nothing else was given or taken; what is kept
-- of channel zero stays
pub record Gives (number : ℕ) (kind : Kind) (octets : List ℕ) (old new : Held) : Type 0 where
  pub gives : (fed rest : List ℕ) (journal : List Item) (given taken : Marks)
      → IsPeer old.limits.window fed rest journal given taken old.peer
      → GivesMessage number old.limits.window fed rest journal given taken kind octets new.peer
  pub kept : new.peer.management ≡ old.peer.management
  pub same : IsOfPeer old new

-- a close of this number was given to channel zero, and nothing else was given or taken; the
-- answers that wait stay
pub record Closes (number : ℕ) (old new : Held) : Type 0 where
  pub closes : (fed rest : List ℕ) (journal : List Item) (given taken : Marks)
      → IsPeer old.limits.window fed rest journal given taken old.peer
      → AsksZero old.limits.window fed rest journal given taken
      (message_text (closing_of number)) new.peer
  pub kept : new.peer.management.answers ≡ old.peer.management.answers
  pub same : IsOfPeer old new

-- a part was taken from the life of this number, whose octets are the first of these; answers of
-- channel zero may have been let go
pub record Takes (number : ℕ) (part : Part) (octets : List ℕ) (old new : Held) : Type 0 where
  pub takes : (fed rest : List ℕ) (journal : List Item) (given taken : Marks)
      → IsPeer old.limits.window fed rest journal given taken old.peer
      → TakesMarks number old.limits.window fed rest journal given taken part octets
      old.peer.management.answers new.peer
  pub same : IsOfPeer old new
