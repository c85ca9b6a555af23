-- What is kept of the message of channel zero under way, and the line that is made of it, for
-- proofs.
use Rattle.std.specs.Prelude.{◌≡◌, ℕ, ◌+◌, ◌<◌, ◌≤◌, Bool, true, false, List, ◌++◌, length}
use Rattle.beep_text.specs.declared.limits.TheConstants.{MAX_TEXT}
use Rattle.beep_octets.specs.Held.{Held}
use Rattle.beep_frame.specs.Frame.{Frame}
use Rattle.beep_show.specs.declared.zero.Zero.{Zero}
use Rattle.beep_show.specs.Texts.{IsMessageText, IsElementLine, message_with, ends_message, gathers}

-- the octets are the message, or it is too long
abbrev pub HoldsBy : Bool → List ℕ → List ℕ → Type 0
HoldsBy false octets message = (octets ≡ message) × (length message ≤ MAX_TEXT)
HoldsBy true octets message = MAX_TEXT < length message

-- the message so far
pub record HoldsZero (zero : Zero) (message : List ℕ) : Type 0 where
  pub holds : HoldsBy zero.long zero.payload.octets message
  pub room : MAX_TEXT ≤ length zero.payload.octets + zero.payload.spare

-- what is shown of a message was appended
pub record AppendsMessage (message : List ℕ) (old new : Held) : Type 0 where
  pub text : List ℕ
  pub is_text : IsMessageText message text
  pub appended : new.octets ≡ old.octets ++ text

-- the line of a message was appended
pub record AppendsLine (message : List ℕ) (old new : Held) : Type 0 where
  pub line : List ℕ
  pub is_line : IsElementLine message line
  pub appended : new.octets ≡ old.octets ++ line

-- the line of a message was appended, where it is complete
abbrev pub AppendsWhere : Bool → List ℕ → Held → Held → Type 0
AppendsWhere false message old new = new.octets ≡ old.octets
AppendsWhere true message old new = AppendsLine message old new

-- a frame was followed
pub record FollowsZero (before : List ℕ) (f : Frame) (zero : Zero) (old new : Held) : Type 0 where
  pub holds : HoldsZero zero (gathers before f)
  pub line : AppendsWhere (ends_message f) (message_with before f) old new
