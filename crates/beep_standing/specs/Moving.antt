-- What the moments of channel zero make of the live channels: a life begins, a life ends, or none
-- does (RFC 3080, sections 2.3.1.2 and 2.3.1.3).
-- The code asks of a request that is granted what it says, and whether its number is live.
use Rattle.std.specs.Prelude.{◌≡◌, ℕ, ◌==◌, nat_lt, Bool, true, false, not, ◌&&◌, List, ◌∷◌, Option, None, Some}
use Rattle.beep_frame.specs.declared.head.Head.{Head}
use Rattle.beep_frame.specs.declared.kind.Kind.{Kind}
use Rattle.beep_frame.specs.Frame.{same_kind}
use Rattle.beep_history.specs.declared.journal.Side.{Side}
use Rattle.beep_history.specs.Journal.{Item, passed, other}
use Rattle.beep_history.specs.Marks.{position_of}
use Rattle.beep_mgmt.specs.Form.{Form, greeting, start, chosen, close, okay, fault}
use Rattle.beep_journal.specs.Lives.{Event, start_granted, close_granted, lives, is_live, life_named}
use Rattle.beep_journal.specs.Zero.{zero_history, said_to, completes_form, events}

-- ---- one moment

-- no life begins or ends: each number has as many lives as before, live or not
pub record MovesNone (before after : List Event) : Type 0 where
  pub lives : (n : ℕ) → lives n after ≡ lives n before
  pub live : (n : ℕ) → is_live n after ≡ is_live n before

-- the life of a number begins, which had none
pub record BeginsLife (number : ℕ) (before after : List Event) : Type 0 where
  pub granted : after ≡ start_granted number ∷ before
  pub above : (number == 0) ≡ false
  pub free : is_live number before ≡ false

-- the live life of a number ends: a close that names it was granted
pub record EndsLife (number : ℕ) (before after : List Event) : Type 0 where
  pub side : Side
  pub position : ℕ
  pub granted : after ≡ close_granted side position number ∷ before
  pub above : (number == 0) ≡ false
  pub named : life_named number side position before ≡ lives number before

-- ---- one frame

-- a life begins where the test holds; else none moves
abbrev pub BeginsWhere : Bool → ℕ → List Event → List Event → Type 0
BeginsWhere true number before after = BeginsLife number before after
BeginsWhere false number before after = MovesNone before after

-- a life ends where the test holds; else none moves
abbrev pub EndsWhere : Bool → ℕ → List Event → List Event → Type 0
EndsWhere true number before after = EndsLife number before after
EndsWhere false number before after = MovesNone before after

-- what the request of a side at a position makes of lives that says this and is granted: a start
-- begins the life of a number above 0 that has none, a close ends the live life that it names
abbrev pub Granted : Side → ℕ → Option Form → List Event → List Event → Type 0
Granted side position None before after = MovesNone before after
Granted side position (Some (greeting features localize profiles)) before after =
    MovesNone before after
Granted side position (Some (start number server profiles)) before after =
    BeginsWhere (nat_lt 0 number && not (is_live number before)) number before after
Granted side position (Some (chosen profile)) before after = MovesNone before after
Granted side position (Some (close number code note)) before after =
    EndsWhere (is_live number before
    && life_named number side position before == lives number before) number before after
Granted side position (Some okay) before after = MovesNone before after
Granted side position (Some (fault code note)) before after = MovesNone before after

-- the same, where the test holds; else none moves
abbrev pub GrantedWhere : Bool → Side → ℕ → Option Form → List Event → List Event → Type 0
GrantedWhere true side position form before after = Granted side position form before after
GrantedWhere false side position form before after = MovesNone before after

-- a passing frame completes a positive reply of channel zero, in the form that its request asks for
abbrev pub is_grant : Side → Head → List ℕ → List Item → Bool
is_grant by head payload journal =
    head.channel == 0
    && (not head.more && (same_kind Kind.Rpy head.kind
    && completes_form by head payload (zero_history journal)))

-- what a passing frame makes of lives: it grants the request that it answers, or none moves
abbrev pub Moves : Side → Head → List ℕ → List Item → Type 0
Moves by head payload journal =
    GrantedWhere (is_grant by head payload journal) (other by)
    (position_of by (zero_history journal) head) (said_to by head (zero_history journal))
    (events journal) (events (passed by head payload ∷ journal))
