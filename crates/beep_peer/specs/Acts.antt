-- What a program asks on channel zero: why it is refused, and what is given (RFC 3080, sections
-- 2.3.1.2 and 2.3.1.3).
use Rattle.std.specs.Prelude.{◌≡◌, ℕ, ◌+◌, nat_lt, nat_le, Bool, not, ◌||◌, if◌then◌else◌, List, [], ◌∷◌, ◌++◌, length, Option, None, Some, is_some}
use Rattle.beep_upright.specs.beep_history.specs.Journal.{Item}
use Rattle.beep_upright.specs.beep_history.specs.declared.limits.TheConstants.{MAX_REQUESTS}
use Rattle.beep_upright.specs.beep_exchange.specs.Given.{first_asked_now}
use Rattle.beep_upright.specs.beep_frame.specs.declared.kind.Kind.{Kind}
use Rattle.beep_upright.specs.beep_outbox.specs.Queue.{Message, message_marks}
use Rattle.beep_upright.specs.beep_channel.specs.Held.{Held, Live}
use Rattle.beep_upright.specs.beep_lives.specs.Lives.{live_at, numbers}
use Rattle.beep_upright.specs.beep_turns.specs.declared.turns.TheConstants.{MAX_CHANNELS}
use Rattle.beep_upright.specs.beep_standing.specs.Standing.{Marks, with_marks}
use Rattle.beep_upright.specs.beep_asked.specs.Kept.{Kept, is_leaving}
use Rattle.beep_upright.specs.beep_management.specs.Managed.{Managed, numbers_of, has_number, lowest}
use Rattle.beep_upright.specs.beep_management.specs.Steps.{KeepsQueue}
use Rattle.beep_peer.specs.Standing.{rest_of, leaves}
use Rattle.beep_peer.specs.declared.refusals.StartError.{StartError}
use Rattle.beep_peer.specs.declared.refusals.ReleaseError.{ReleaseError}
use Rattle.beep_peer.specs.declared.refusals.CloseError.{CloseError}
use Rattle.beep_peer.specs.declared.peer.Peer.{Peer}
use Rattle.beep_peer.specs.Peering.{Holds, is_over, is_welcomed}

-- ---- what refusals ask

-- a number is live, or starting
abbrev pub is_used : ℕ → Peer → Bool
is_used number peer =
    is_some (live_at number peer.lives)
    || (has_number number peer.management.starting || has_number number peer.management.granted)

-- how many channels above zero are live or starting
abbrev pub count_used : Peer → ℕ
count_used peer =
    length peer.lives + (length peer.management.starting + length peer.management.granted)

-- the own requests of a channel that have no wholly taken reply
abbrev pub asked_of : Option Live → ℕ
asked_of None = 0
asked_of (Some channel) = channel.held.life.given.asked

-- the number of the oldest of them
abbrev pub first_asked_of : Option Live → Option ℕ
first_asked_of None = None
first_asked_of (Some channel) = first_asked_now channel.held.life.given

-- the lowest number above zero that is live or starting
abbrev pub lowest_used : Peer → Option ℕ
lowest_used peer = lowest (rest_of (numbers peer.lives)
    ++ (numbers_of peer.management.starting ++ numbers_of peer.management.granted))

-- ---- refusals, in the order in which they are tried

-- the first whose test holds
abbrev pub first_of_causes : {E : Type 0} → List (E × Bool) → Option E
first_of_causes [] = None
first_of_causes ((cause, holds) ∷ others) = if holds then Some cause else first_of_causes others

-- why a start of a number is refused, but for the length of its message
abbrev pub start_refusal : Peer → ℕ → Option StartError
start_refusal peer number = first_of_causes (
    (StartError.Ended, is_over peer)
    ∷ (StartError.NoGreeting, not (is_welcomed peer.management))
    ∷ (StartError.Closing, leaves peer.management || is_leaving peer.management.theirs.requests)
    ∷ (StartError.NumberTaken, is_used number peer)
    ∷ (StartError.ChannelsFull, nat_lt MAX_CHANNELS (count_used peer))
    ∷ (StartError.TooManyAsked, nat_le MAX_REQUESTS (asked_of (live_at 0 peer.lives)))
    ∷ [])

-- the first of two causes
abbrev pub either_cause : {E : Type 0} → Option E → Option E → Option E
either_cause None other = other
either_cause (Some cause) other = Some cause

-- a cause with its number, where there is one
abbrev pub numbered_cause : {E : Type 0} → (ℕ → E) → Option ℕ → Option E
numbered_cause cause None = None
numbered_cause cause (Some number) = Some (cause number)

-- why a release is refused
abbrev pub release_refusal : Peer → Option ReleaseError
release_refusal peer = either_cause (first_of_causes (
    (ReleaseError.Ended, is_over peer)
    ∷ (ReleaseError.NoGreeting, not (is_welcomed peer.management))
    ∷ (ReleaseError.Closing, leaves peer.management)
    ∷ []))
    (either_cause (numbered_cause ReleaseError.Busy (lowest_used peer))
    (numbered_cause ReleaseError.Unanswered (first_asked_of (live_at 0 peer.lives))))

-- why a close of a live number is refused
abbrev pub close_refusal : Peer → ℕ → Option CloseError
close_refusal peer number =
    either_cause (numbered_cause CloseError.Busy (first_asked_of (live_at number peer.lives)))
    (first_of_causes (
    (CloseError.TooManyAsked, nat_le MAX_REQUESTS (asked_of (live_at 0 peer.lives))) ∷ []))

-- ---- what is given

-- a MSG of these octets was given to channel zero, and a peer stands for it
pub record GivesZero (size : ℕ) (journal : List Item) (given taken : Marks) (octets : List ℕ)
    (peer : Peer) : Type 0 where
  pub ask : Message
  pub is_msg : ask.tag.kind ≡ Kind.Msg
  pub is_text : ask.octets ≡ octets
  pub holds : Holds size journal (with_marks 0 (given 0 ++ message_marks ask) given) taken
      peer.lives peer.management

-- an own request is kept as one that was given, with the channel that it starts; the answers that
-- wait stay
pub record KeepsRequest (request : Kept) (fresh : List Live) (old new : Managed) : Type 0 where
  pub acts : new.acts.requests ≡ request ∷ old.acts.requests
  pub starting : new.starting ≡ old.starting ++ fresh
  pub answers : new.answers ≡ old.answers

-- ---- what stays

-- what is held of a channel, where it lives
abbrev pub held_of : Option Live → Option Held
held_of None = None
held_of (Some channel) = Some channel.held

-- what is kept of channel zero stays, but for room in its queues
pub record KeepsManaged (old new : Managed) : Type 0 where
  pub mine : KeepsQueue old.mine new.mine
  pub acts : KeepsQueue old.acts new.acts
  pub theirs : KeepsQueue old.theirs new.theirs
  pub answers : new.answers ≡ old.answers
  pub starting : new.starting ≡ old.starting
  pub granted : new.granted ≡ old.granted

-- nothing is changed but room that was made
pub record IsUnchanged (old new : Peer) : Type 0 where
  pub ear : new.ear ≡ old.ear
  pub released : new.released ≡ old.released
  pub held : (n : ℕ) → held_of (live_at n new.lives) ≡ held_of (live_at n old.lives)
  pub kept : KeepsManaged old.management new.management
  pub holds : (size : ℕ) (journal : List Item) (given taken : Marks)
      → Holds size journal given taken old.lives old.management
      → Holds size journal given taken new.lives new.management
  pub numbers_are : numbers new.lives ≡ numbers old.lives
