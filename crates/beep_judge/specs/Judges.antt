-- What is kept of a session is what its journal leaves (RFC 3080, section 2.3.1).
-- The code keeps channel zero, the live lives, and for each side its frame under way and its
-- requests of channel zero that wait.
use Rattle.std.specs.Prelude.{◌≡◌, ℕ, ◌+◌, ◌<◌, ◌≤◌, ◌==◌, nat_lt, true, false, ◌&&◌, List, [], ◌∷◌, length, take, Option, None, Some, is_some, option_map}
use Rattle.beep_text.specs.declared.limits.TheConstants.{MAX_TEXT}
use Rattle.beep_mgmt.specs.Form.{Form, close, form_of}
use Rattle.beep_history.specs.declared.journal.Side.{Side}
use Rattle.beep_history.specs.Journal.{Item, other}
use Rattle.beep_history.specs.Marks.{previous, is_whole, is_answered}
use Rattle.beep_history.specs.Broken.{under_way}
use Rattle.beep_journal.specs.Lives.{Event, lives, is_live, life_named}
use Rattle.beep_journal.specs.Zero.{zero_history, zero_events, events, gathered, asked}
use Rattle.beep_journal.specs.Life.{life_under_way, is_there, history, is_released}
use Rattle.beep_journal.specs.Broken.{breaks_zero_reply}
use Rattle.beep_judge.specs.declared.life.Life.{Life}
use Rattle.beep_judge.specs.declared.half.Frame.{Frame}
use Rattle.beep_judge.specs.declared.half.Request.{Request}
use Rattle.beep_judge.specs.declared.half.Half.{Half}
use Rattle.beep_judge.specs.declared.channels.Channels.{Channels}
use Rattle.beep_judge.specs.declared.session.Session.{Session}
use Rattle.beep_judge.specs.Kept.{under, life_at, is_current, under_of}
use Rattle.beep_judge.specs.Lived.{IsLife}

-- ---- stamps

-- a stamp names the life of this count of a number: it is that of the live life exactly where
-- that life goes on
pub record Names (channels : Channels) (events : List Event) (number stamp count : ℕ) : Type 0 where
  pub begun : count ≤ lives number events
  pub given : stamp < channels.stamps
  pub same : is_current number stamp channels
      ≡ (is_live number events && count == lives number events)

-- ---- channels

-- the channels are those that are there, each with its history
pub record IsChannels (channels : Channels) (journal : List Item) : Type 0 where
  pub there : (n : ℕ) → is_there n journal ≡ is_some (life_at n channels)
  pub lives : (n : ℕ) (life : Life) → life_at n channels ≡ Some life
      → IsLife life (history n journal)
  pub given : (n : ℕ) (life : Life) → life_at n channels ≡ Some life → life.stamp < channels.stamps
  pub released : channels.released ≡ is_released journal

-- ---- requests of channel zero

-- what is kept of the request at a position, which says this
pub record IsAsked (channels : Channels) (side : Side) (events : List Event) (position : ℕ)
    (request : Request) (form : Option Form) : Type 0 where
  pub said : option_map form_of request.said ≡ form
  pub implied : request.implied ≡ (position == 0)
  pub names : (n code : ℕ) (note : List ℕ) → form ≡ Some (close n code note) → (n == 0) ≡ false
      → Names channels events n request.stamp (life_named n side position events)

-- the requests kept are the latest of those that were asked, in their order; positions
-- number the list from its end
abbrev pub AreAsked : Channels → Side → List Event → List Request → List (Option Form) → Type 0
AreAsked channels side events [] forms = Unit {0}
AreAsked channels side events (request ∷ requests) [] = ⊥
AreAsked channels side events (request ∷ requests) (form ∷ forms) =
    IsAsked channels side events (length forms) request form
    × AreAsked channels side events requests forms

-- the requests kept are those of a side that wait for their reply
pub record IsQueue (channels : Channels) (side : Side) (zero : List Item)
    (requests : List Request) : Type 0 where
  pub whole : (p : ℕ) → is_whole side p zero ≡ nat_lt p (length (asked side zero))
  pub answered : (p : ℕ) → is_answered side p zero
      ≡ nat_lt (p + length requests) (length (asked side zero))
  pub within : length requests ≤ length (asked side zero)
  pub asked : AreAsked channels side (zero_events zero) requests (asked side zero)

-- ---- a side

-- a frame under way on channel zero, which is no ANS and no NUL
pub record IsOfZero (channels : Channels) (frame : Frame) : Type 0 where
  pub current : is_current 0 frame.stamp channels ≡ true
  pub whole_reply : breaks_zero_reply frame.head ≡ false

-- where the frame under way began: on channel zero, or in a life that its stamp names
abbrev pub IsSince : Channels → Side → List Item → Option Frame → Type 0
IsSince channels side journal None = Unit {0}
IsSince channels side journal (Some frame) =
    ((frame.head.channel == 0) ≡ true → IsOfZero channels frame)
    × ((frame.head.channel == 0) ≡ false
    → Names channels (events journal) frame.head.channel frame.stamp
    (life_under_way frame.head.channel side journal))

-- the frame under way of a side, and the life in which it began, where that goes on
pub record IsUnder (channels : Channels) (side : Side) (journal : List Item)
    (frame : Option Frame) : Type 0 where
  pub head : option_map (λ f. f.head) frame ≡ under_way side journal
  pub lives : (n : ℕ) (life : Life) → life_at n channels ≡ Some life
      → under side life ≡ under_of n life.stamp frame
  pub since : IsSince channels side journal frame

-- what is kept of a side
pub record IsHalf (channels : Channels) (side : Side) (journal : List Item)
    (half : Half) : Type 0 where
  pub heard : half.heard ≡ is_some (previous side journal)
  pub text : half.text.octets ≡ take (MAX_TEXT + 1) (gathered side (zero_history journal))
  pub asked : IsQueue channels side (zero_history journal) half.asked.items
  pub frame : IsUnder channels side journal half.under_way

-- ---- the session

-- what is kept of the channels and of both sides, seen from one
pub record IsKept (side : Side) (journal : List Item) (all : Channels)
    (one another : Half) : Type 0 where
  pub channels : IsChannels all journal
  pub mine : IsHalf all side journal one
  pub theirs : IsHalf all (other side) journal another

-- the judge is what this journal leaves
abbrev pub Judges : Session → List Item → Type 0
Judges session journal = IsKept Side.Received journal session.channels session.received session.sent
