-- What a program gives and takes in a live life above zero: why it is refused, and what it makes of
-- each journal for which a peer stands (RFC 3080, sections 2.1 and 2.3.1.3).
-- The code keeps neither a journal nor what was given and taken.
use Rattle.std.specs.Prelude.{◌≡◌, ℕ, Bool, false, ◌||◌, if◌then◌else◌, List, ◌++◌, Option, None, Some, is_some}
use Rattle.beep_peer.specs.beep_frame.specs.declared.kind.Kind.{Kind}
use Rattle.beep_peer.specs.beep_frame.specs.Frame.{is_msg, is_ans}
use Rattle.beep_peer.specs.beep_frame.specs.Modulo.{modulo_2_64}
use Rattle.beep_peer.specs.beep_history.specs.Journal.{Item}
use Rattle.beep_peer.specs.beep_history.specs.Marks.{Mark}
use Rattle.beep_peer.specs.beep_exchange.specs.Given.{ends_reply, message_number}
use Rattle.beep_peer.specs.beep_inbox.specs.declared.part.Part.{Part}
use Rattle.beep_peer.specs.beep_inbox.specs.Laws.{part_marks}
use Rattle.beep_peer.specs.beep_outbox.specs.declared.give_error.GiveError.{GiveError}
use Rattle.beep_peer.specs.beep_outbox.specs.Queue.{Message, message_marks}
use Rattle.beep_peer.specs.beep_channel.specs.declared.ask_error.AskError.{AskError}
use Rattle.beep_peer.specs.beep_channel.specs.Held.{Live, ask_refusal, reply_refusal}
use Rattle.beep_peer.specs.beep_channel.specs.Stands.{ends_of, answers_after}
use Rattle.beep_peer.specs.beep_lives.specs.Lives.{live_at, numbers}
use Rattle.beep_peer.specs.beep_standing.specs.Standing.{Marks, with_marks}
use Rattle.beep_peer.specs.beep_hearing.specs.Hears.{SameAbove}
use Rattle.beep_peer.specs.beep_asked.specs.Kept.{closes, is_leaving}
use Rattle.beep_peer.specs.declared.peer.Peer.{Peer}
use Rattle.beep_peer.specs.beep_management.specs.Managed.{Prepared}
use Rattle.beep_peer.specs.Peering.{IsPeer}
use Rattle.beep_peer.specs.Calls.{GivesFirst}

-- ---- the message

-- the message that a program gives next in a life: a request at the position after those that were
-- given, or a message of the reply to the oldest request without a whole one, whose answers are
-- numbered
abbrev pub next_message : Kind → List ℕ → List Mark → Message
next_message kind octets given = record {
  tag = record {
    kind = kind;
    request = modulo_2_64 (if is_msg kind then ends_of is_msg given
        else ends_of ends_reply given);
    ansno = if is_ans kind then message_number (answers_after 0 given) else 0;
  };
  octets = octets;
}

-- ---- refusals

-- the peer's close of this life, or of 0, has arrived and waits
abbrev pub is_closing : ℕ → Peer → Bool
is_closing number peer =
    is_leaving peer.management.theirs.requests || closes number peer.management.theirs.requests

-- why a request of so many octets is refused by its channel
abbrev pub channel_refusal : Option Live → ℕ → Option AskError
channel_refusal None size = None
channel_refusal (Some channel) size = ask_refusal channel.held size

-- why it is refused: the life is being closed, or by its channel
abbrev pub ask_refusal_at : Peer → ℕ → ℕ → Option AskError
ask_refusal_at peer number size =
    if is_closing number peer then Some AskError.Closing
    else channel_refusal (live_at number peer.lives) size

-- why a message of a reply of so many octets is refused
abbrev pub reply_refusal_at : Option Live → ℕ → Option GiveError
reply_refusal_at None size = None
reply_refusal_at (Some channel) size = reply_refusal channel.held size

-- ---- what is given and taken

-- a message was given in the life of this number: the peer stands for the same octets and journal,
-- with its marks after what was given there, and nothing else was given or taken
pub record GivesMessage (number size : ℕ) (fed rest : List ℕ) (journal : List Item)
    (given taken : Marks) (kind : Kind) (octets : List ℕ) (peer : Peer) : Type 0 where
  pub stands : IsPeer size fed rest journal
      (with_marks number
      (given number ++ message_marks (next_message kind octets (given number))) given)
      taken peer

-- a part was taken from the life of this number, and of these answers of channel zero the first
-- were given
pub record TakesMarks (number size : ℕ) (fed rest : List ℕ) (journal : List Item)
    (given taken : Marks) (part : Part) (octets : List ℕ) (answers : List Prepared) (peer : Peer)
    : Type 0 where
  pub given_now : Marks
  pub gives : GivesFirst given given_now answers peer
  pub same : SameAbove given given_now
  pub stands : IsPeer size fed rest journal given_now
      (with_marks number (taken number ++ part_marks part octets) taken) peer

-- ---- what stays

-- the channels of these numbers alone are changed, and no life begins or ends
pub record ChangesOnly (changed : ℕ → Bool) (old new : List Live) : Type 0 where
  pub order : numbers new ≡ numbers old
  pub there : (n : ℕ) → is_some (live_at n new) ≡ is_some (live_at n old)
  pub others : (n : ℕ) → changed n ≡ false → live_at n new ≡ live_at n old
