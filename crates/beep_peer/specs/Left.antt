-- How much a peer has still to say: a number that each frame and each SEQ that goes out lowers, so
-- that a caller who lets it speak until nothing is due comes to an end (RFC 3080, section 2.6.1).
-- The code keeps no such number.
use Rattle.std.specs.Prelude.{ℕ, ◌+◌, List, [], ◌∷◌, length}
use Rattle.beep_upright.specs.beep_outbox.specs.Queue.{marks_of}
use Rattle.beep_upright.specs.beep_channel.specs.Held.{Live}
use Rattle.beep_upright.specs.beep_channel.specs.Fits.{as_number}
use Rattle.beep_upright.specs.beep_lives.specs.Lives.{owes_seq}
use Rattle.beep_upright.specs.beep_management.specs.Managed.{Prepared, Managed}

-- a channel: twice its unsent octets and messages, and one where it owes a SEQ
abbrev pub channel_left : Live → ℕ
channel_left channel =
    length (marks_of channel.held.queue) + length (marks_of channel.held.queue)
    + as_number (owes_seq channel)

abbrev pub channels_left : List Live → ℕ
channels_left [] = 0
channels_left (channel ∷ others) = channel_left channel + channels_left others

-- an answer that waits: twice its octets and its message, and one more
abbrev pub answers_left : List Prepared → ℕ
answers_left [] = 0
answers_left (answer ∷ others) =
    length answer.octets + length answer.octets + 3 + answers_left others

-- all of it, and one for each channel that is to be granted
abbrev pub left_to_say : List Live → Managed → ℕ
left_to_say channels m =
    channels_left channels + answers_left m.answers + length m.granted
