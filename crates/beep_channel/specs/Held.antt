-- What a contract sees of one life of a channel, and what it answers by that alone: which frame and
-- which SEQ is next, which rule a header breaks, what is drained (RFC 3080, sections 2.1 and 2.6;
-- RFC 3081, section 3.1).
-- The code keeps the same in an exchange, two windows, an inbox and an outbox.
use Rattle.std.specs.Prelude.{◌≡◌, ℕ, ◌+◌, ◌-◌, ◌==◌, ◌<◌, ◌≤◌, Bool, true, false, not, ◌&&◌, ◌||◌, nat_lt, nat_le, if◌then◌else◌, List, [], ◌∷◌, length, min, is_some, Option, None, Some, option_map}
use Rattle.std.specs.Option.{option_map_or}
use Rattle.beep_frame.specs.declared.head.Head.{Head}
use Rattle.beep_frame.specs.declared.seq.Seq.{Seq}
use Rattle.beep_frame.specs.declared.kind.Kind.{Kind}
use Rattle.beep_frame.specs.declared.rule.Rule.{Rule}
use Rattle.beep_frame.specs.Frame.{head_of, is_ans, is_reply}
use Rattle.beep_history.specs.declared.limits.TheConstants.{MAX_MESSAGE, MAX_REQUESTS}
use Rattle.beep_history.specs.Broken.{first_of, with_octets}
use Rattle.beep_exchange.specs.Exchange.{Life}
use Rattle.beep_exchange.specs.Kept.{Kept, judged, breaks_long, tag_in}
use Rattle.beep_exchange.specs.Given.{next_asked_now}
use Rattle.beep_seq.specs.Sending.{Sender}
use Rattle.beep_seq.specs.Receiving.{Receiver, full_of, due_of}
use Rattle.beep_inbox.specs.Runs.{Run}
use Rattle.beep_outbox.specs.declared.give_error.GiveError.{GiveError}
use Rattle.beep_outbox.specs.Queue.{Message, first_octets}
use Rattle.beep_outbox.specs.Unsent.{give_refusal}
use Rattle.beep_channel.specs.declared.ask_error.AskError.{AskError}
use Rattle.beep_channel.specs.Fits.{next_number, may_follow, is_shaped}

-- what is held of one life: its number, what an exchange keeps, the unsent messages, the sequence
-- number of the next octet to be sent, the two windows, and the untaken runs
pub record Held : Type 0 where
  pub number : ℕ
  pub life : Life
  pub queue : List Message
  pub seqno : ℕ
  pub sends : Sender
  pub receives : Receiver
  pub inbox : List Run

-- a channel: what it holds, and for how many more untaken runs, unsent octets and unsent messages
-- it has room without taking memory
pub record Live : Type 0 where
  pub held : Held
  pub runs : ℕ
  pub octets : ℕ
  pub messages : ℕ

-- ---- room

-- there is room for as many more unsent octets and messages
pub record SameRoomOut (old new : Live) : Type 0 where
  pub octets : new.octets ≡ old.octets
  pub messages : new.messages ≡ old.messages

-- there is room for as many more untaken runs too
pub record SameRoom (old new : Live) : Type 0 where
  pub out : SameRoomOut old new
  pub runs : new.runs ≡ old.runs

-- of the room for unsent octets and messages no more than this is used
pub record HasRoomOut (old new : Live) (octets messages : ℕ) : Type 0 where
  pub octets_left : old.octets ≤ new.octets + octets
  pub messages_left : old.messages ≤ new.messages + messages

-- the limit of the unsent octets: channel zero has none
abbrev pub limit_of : ℕ → Option ℕ
limit_of number = if number == 0 then None else Some MAX_MESSAGE

-- ---- a received header

-- the first rule on octets that a received header breaks
abbrev pub octets_judged : Held → Head → Option Rule
octets_judged c head = first_of (
    (Rule.Sequence, not (head.seqno == c.receives.next))
    ∷ (Rule.Long, breaks_long c.life.received c.life.sent head)
    ∷ (Rule.Window, not (nat_le head.size c.receives.room))
    ∷ [])

-- the first rule that a received header breaks
abbrev pub held_judged : Held → Head → Option Rule
held_judged c head =
    with_octets (judged c.life.received c.life.sent head) (octets_judged c head)

-- ---- a frame that arrives

-- what it adds to what is untaken
abbrev pub arrived_run : Held → Head → List ℕ → Run
arrived_run c head payload = record {
  tag = tag_in c.life.received c.life.sent head;
  octets = payload;
  ended = not head.more;
}

-- ---- the next frame

-- a first message can go: it has no octet left, or the peer's window is open
abbrev pub queue_ready : ℕ → List Message → Bool
queue_ready room [] = false
queue_ready room (m ∷ ms) = length m.octets == 0 || nat_lt 0 room

-- a frame can go
abbrev pub is_held_ready : Held → Bool
is_held_ready c = queue_ready c.sends.room c.queue

-- the octets that the next frame holds
abbrev pub next_size : ℕ → ℕ → List Message → ℕ
next_size most room queue = min (length (first_octets queue)) (min most room)

-- the header of a frame with so many octets of the first message
abbrev pub head_from : ℕ → List Message → ℕ → ℕ → Kept → Kept → Head
head_from size [] number seqno mine theirs = head_of Kind.Nul number 0 false seqno 0 0
head_from size (m ∷ ms) number seqno mine theirs =
    head_of m.tag.kind number (next_number m.tag.request m.tag.kind mine theirs)
    (nat_lt size (length m.octets)) seqno size m.tag.ansno

-- the header of the next frame, of at most so many octets
abbrev pub next_head : ℕ → Held → Head
next_head most c =
    head_from (next_size most c.sends.room c.queue) c.queue c.number c.seqno c.life.sent
    c.life.received

-- ---- a SEQ

-- the SEQ with the full window
abbrev pub full_seq_of : Held → Seq
full_seq_of c = record {
  channel = c.number;
  ackno = (full_of c.receives).0;
  window = (full_of c.receives).1;
}

-- a SEQ is due
abbrev pub is_seq_due_of : Held → Bool
is_seq_due_of c = is_some (due_of c.receives)

-- the SEQ that is due, if one is
abbrev pub seq_due_of : Held → Option Seq
seq_due_of c = if is_seq_due_of c then Some (full_seq_of c) else None

-- once the SEQ with the full window was sent
abbrev pub told_held : Held → Held
told_held c =
    record c { receives = record c.receives { room = c.receives.size - c.receives.untaken } }

-- ---- a message that is given

-- the next own request, with these octets
abbrev pub next_ask : Held → List ℕ → Message
next_ask c octets = record {
  tag = record { kind = Kind.Msg; request = next_asked_now c.life.given; ansno = 0 };
  octets = octets;
}

-- the number of the next answer: 0 first, and 0 in what is no ANS
abbrev pub ansno_of : Held → Kind → ℕ
ansno_of c kind = if is_ans kind then option_map_or (λ n. n) c.life.given.answers 0 else 0

-- the next message of the reply to the oldest owed request
abbrev pub next_reply : Held → Kind → List ℕ → Message
next_reply c kind octets = record {
  tag = record { kind = kind; request = c.life.given.first_owed; ansno = ansno_of c kind };
  octets = octets;
}

-- a message of this kind and size may be given to a request that is owed: it is no MSG, an answer
-- alone follows answers, a NUL is empty, and an ANS is not
pub record IsReply (c : Held) (kind : Kind) (octets : List ℕ) : Type 0 where
  pub owed : 0 < c.life.given.owed
  pub reply : is_reply kind ≡ true
  pub follows : is_some c.life.given.answers ≡ true → may_follow (Some Kind.Ans) kind ≡ true
  pub shaped : is_shaped kind octets ≡ true

-- the like of what an outbox refuses
abbrev pub ask_error : GiveError → AskError
ask_error (GiveError.Full queued limit) = AskError.Full queued limit
ask_error GiveError.NoMemory = AskError.NoMemory

-- why a reply of so many octets is refused: with it there would be more unsent octets than the
-- limit
abbrev pub reply_refusal : Held → ℕ → Option GiveError
reply_refusal c size = give_refusal
    (record { messages = c.queue; limit = limit_of c.number; spare = 0; places = 0 }) size

-- why a request of so many octets is refused: `MAX_REQUESTS` lack a wholly taken reply, or as a
-- reply
abbrev pub ask_refusal : Held → ℕ → Option AskError
ask_refusal c size =
    if nat_le MAX_REQUESTS c.life.given.asked then Some AskError.TooManyAsked
    else option_map ask_error (reply_refusal c size)

-- ---- drained

-- no mark is unsent or untaken, and no request of either side waits, by the frames that passed and
-- by the messages that were given and taken (RFC 3080, section 2.3.1.3)
abbrev pub is_held_drained : Held → Bool
is_held_drained c =
    length c.queue == 0 && length c.inbox == 0
    && (c.life.sent.waiting == 0 && c.life.received.waiting == 0
    && (c.life.given.asked == 0 && c.life.given.owed == 0))
