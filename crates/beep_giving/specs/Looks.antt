-- What is held of a life by its channel, where it lives (RFC 3080, section 2.1).
-- The code asks the channel; here a number without one has nothing.
use Rattle.std.specs.Prelude.{ℕ, ◌==◌, nat_lt, Bool, false, not, List, [], length, Option, None, Some}
use Rattle.beep_peer.specs.beep_exchange.specs.declared.given.Given.{Given}
use Rattle.beep_peer.specs.beep_inbox.specs.Runs.{Run}
use Rattle.beep_peer.specs.beep_channel.specs.Held.{Live}

-- what is counted of its requests and of their replies, positions modulo 2^64
abbrev pub given_of : Option Live → Option Given
given_of None = None
given_of (Some channel) = Some channel.held.life.given

-- the untaken runs
abbrev pub inbox_of : Option Live → List Run
inbox_of None = []
inbox_of (Some channel) = channel.held.inbox

-- a wholly taken request lacks a whole reply
abbrev pub owes_of : Option Live → Bool
owes_of None = false
owes_of (Some channel) = nat_lt 0 channel.held.life.given.owed

-- the answers given to the oldest of those
abbrev pub answers_of : Option Live → Option ℕ
answers_of None = None
answers_of (Some channel) = channel.held.life.given.answers

-- a mark is untaken
abbrev pub has_untaken_of : Option Live → Bool
has_untaken_of None = false
has_untaken_of (Some channel) = not (length channel.held.inbox == 0)
