-- The requests of channel zero that wait for their reply, as an end keeps them, and the history of
-- channel zero (RFC 3080, sections 2.3.1 and 2.6.1).
-- The code keeps a queue for each side; here what it keeps of each request is what its message says
-- and what the moments say of the life that it names.
use Rattle.std.specs.Prelude.{◌≡◌, ℕ, ◌+◌, ◌<◌, ◌≤◌, ◌==◌, nat_lt, Bool, true, false, ◌&&◌, List, [], ◌∷◌, length, Option, None, Some}
use Rattle.beep_standing.specs.beep_frame.specs.declared.head.Head.{Head}
use Rattle.beep_standing.specs.beep_frame.specs.Frame.{is_msg, is_ans, is_reply}
use Rattle.beep_standing.specs.beep_mgmt.specs.Form.{Form, greeting, start, chosen, close, okay, fault}
use Rattle.beep_standing.specs.beep_history.specs.declared.journal.Side.{Side}
use Rattle.beep_standing.specs.beep_history.specs.Journal.{Item}
use Rattle.beep_standing.specs.beep_history.specs.Marks.{is_whole, is_answered}
use Rattle.beep_standing.specs.beep_history.specs.Broken.{under_way, KeepsExchangeRules}
use Rattle.beep_standing.specs.beep_journal.specs.Lives.{Event, lives, is_live, life_named}
use Rattle.beep_standing.specs.beep_journal.specs.Zero.{zero_events, asked}
use Rattle.beep_asked.specs.Kept.{Kept}

-- ---- the life that a request names

-- the close of a side at a position names the life of its number that is live
abbrev pub names_live : ℕ → Side → ℕ → List Event → Bool
names_live number side position events =
    is_live number events && life_named number side position events == lives number events

-- the request of a side at a position, which says this, names a life that is live: a close above 0
-- alone can
abbrev pub names_life : Side → ℕ → Option Form → List Event → Bool
names_life side position None events = false
names_life side position (Some (greeting features localize profiles)) events = false
names_life side position (Some (start number server profiles)) events = false
names_life side position (Some (chosen profile)) events = false
names_life side position (Some (close number code note)) events =
    nat_lt 0 number && names_live number side position events
names_life side position (Some okay) events = false
names_life side position (Some (fault code note)) events = false

-- ---- what is kept, and the history

-- this is kept of the request of a side at a position, which says this
pub record IsAsked (side : Side) (events : List Event) (position : ℕ) (kept : Kept)
    (form : Option Form) : Type 0 where
  pub said : kept.said ≡ form
  pub implied : kept.implied ≡ (position == 0)
  pub names : kept.names ≡ names_life side position form events

-- the requests kept are the latest of those that were asked, in their order; positions number the
-- list from its end
abbrev pub AreAsked : Side → List Event → List Kept → List (Option Form) → Type 0
AreAsked side events [] forms = Unit {0}
AreAsked side events (kept ∷ others) [] = ⊥
AreAsked side events (kept ∷ others) (form ∷ forms) =
    IsAsked side events (length forms) kept form × AreAsked side events others forms

-- the requests kept are those of a side that wait for their reply, the latest first. The implied
-- one is among those that were asked
pub record AreWaiting (side : Side) (zero : List Item) (requests : List Kept) : Type 0 where
  pub begun : 0 < length (asked side zero)
  pub whole : (p : ℕ) → is_whole side p zero ≡ nat_lt p (length (asked side zero))
  pub answered : (p : ℕ) → is_answered side p zero
      ≡ nat_lt (p + length requests) (length (asked side zero))
  pub within : length requests ≤ length (asked side zero)
  pub asked : AreAsked side (zero_events zero) requests (asked side zero)

-- ---- what passes

-- the last frame of a request of a side is under way, on a channel zero that keeps the rules of
-- the exchange
pub record EndsRequest (by : Side) (head : Head) (zero : List Item) : Type 0 where
  pub keeps : KeepsExchangeRules zero
  pub under : under_way by zero ≡ Some head
  pub last : head.more ≡ false
  pub request : is_msg head.kind ≡ true

-- the last frame of a reply of a side is under way there; one of many answers ends no reply
pub record EndsReply (by : Side) (head : Head) (zero : List Item) : Type 0 where
  pub keeps : KeepsExchangeRules zero
  pub under : under_way by zero ≡ Some head
  pub last : head.more ≡ false
  pub reply : is_reply head.kind ≡ true
  pub alone : is_ans head.kind ≡ false

-- a test says which numbers above 0 are live
abbrev pub SaysLive : (ℕ → Bool) → List Event → Type 0
SaysLive live events = (n : ℕ) → (n == 0) ≡ false → live n ≡ is_live n events
