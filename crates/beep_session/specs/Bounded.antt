-- What a session holds of what arrived, and its bounds (RFC 3081, section 3.1).
-- The code keeps no such sum: each window bounds its life, and of a message of channel zero no more
-- is kept than can be read.
use Rattle.std.specs.Prelude.{◌≡◌, ℕ, ◌+◌, ◌*◌, ◌≤◌, List, [], ◌∷◌, length, Some}
use Rattle.std.specs.Option.{option_map_or}
use Rattle.beep_giving.specs.beep_frame.specs.declared.limits.TheConstants.{MAX_PAYLOAD}
use Rattle.beep_giving.specs.beep_history.specs.declared.limits.TheConstants.{MAX_REQUESTS, MAX_ANSWERS}
use Rattle.beep_giving.specs.beep_text.specs.declared.limits.TheConstants.{MAX_TEXT}
use Rattle.beep_giving.specs.beep_inbox.specs.Runs.{octets_of}
use Rattle.beep_giving.specs.beep_channel.specs.Held.{Live}
use Rattle.beep_giving.specs.beep_channel.specs.Stands.{untaken_ends}
use Rattle.beep_giving.specs.beep_lives.specs.Lives.{live_at}
use Rattle.beep_giving.specs.beep_hearing.specs.declared.ear.Ear.{Ear}
use Rattle.beep_session.specs.Session.{Held}

-- ---- what is held

-- of one life: its untaken octets, and those of its frame under way
abbrev pub octets_held : Live → ℕ
octets_held channel =
    octets_of channel.held.inbox
    + option_map_or (λ head. head.size) channel.held.life.received.under_way 0

-- of all lives
abbrev pub all_held : List Live → ℕ
all_held [] = 0
all_held (channel ∷ others) = octets_held channel + all_held others

-- of the frame under way, so far
abbrev pub frame_held : Ear → ℕ
frame_held ear = option_map_or (λ head. length ear.decoder.payload.octets) ear.under 0

-- of the message of channel zero that is under way, or waits
abbrev pub text_held : Ear → ℕ
text_held ear = length ear.text.octets

-- ---- the bounds

-- a life holds no more octets than its own window, and at most so many more ends of messages: those
-- of requests, of replies, and of answers whose octets were all taken
pub record IsLifeBounded (window : ℕ) (channel : Live) : Type 0 where
  pub octets : octets_held channel ≤ window
  pub ends : untaken_ends channel.held
      ≤ octets_of channel.held.inbox + (MAX_REQUESTS + MAX_REQUESTS + MAX_ANSWERS)

-- so does each live one; all of them together hold no more than their windows; and of channel zero
-- no more is kept than can be read
pub record IsBounded (session : Held) : Type 0 where
  pub life : (number : ℕ) (channel : Live) → live_at number session.peer.lives ≡ Some channel
      → IsLifeBounded session.limits.window channel
  pub lives : all_held session.peer.lives
      ≤ length session.peer.lives * session.limits.window
  pub text : text_held session.peer.ear ≤ MAX_TEXT

-- and unless a rule was broken, the frame under way is no longer than a frame may be
pub record IsWholeBounded (session : Held) : Type 0 where
  pub frame : frame_held session.peer.ear ≤ MAX_PAYLOAD
  pub all : all_held session.peer.lives + frame_held session.peer.ear + text_held session.peer.ear
      ≤ length session.peer.lives * session.limits.window + MAX_PAYLOAD + MAX_TEXT
