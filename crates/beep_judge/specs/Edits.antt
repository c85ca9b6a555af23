-- What the calls on lives and channels leave of what is kept.
use Rattle.std.specs.Prelude.{◌≡◌, ℕ, ◌+◌, ◌==◌, if◌then◌else◌, List, [], ◌∷◌, length, None, Some}
use Rattle.beep_frame.specs.declared.head.Head.{Head}
use Rattle.beep_frame.specs.declared.seq.Seq.{Seq}
use Rattle.beep_history.specs.declared.journal.Side.{Side}
use Rattle.beep_history.specs.Journal.{Item, began, passed, told, other}
use Rattle.beep_history.specs.Broken.{broken_rule}
use Rattle.beep_judge.specs.declared.life.Life.{Life}
use Rattle.beep_judge.specs.declared.channels.Channels.{Channels}
use Rattle.beep_judge.specs.Kept.{under, life_at}
use Rattle.beep_judge.specs.Lived.{IsLife}

-- ---- one life

-- a header of a side joins the history of a life
pub record Begins (side : Side) (head : Head) (old new : Life) : Type 0 where
  pub stands : (past : List Item) → IsLife old past → broken_rule side past head ≡ None
      → IsLife new (began side head ∷ past)
  pub begun : under side new ≡ Some head
  pub others : under (other side) new ≡ under (other side) old
  pub stamp : new.stamp ≡ old.stamp

-- a frame of a side joins the history of a life
pub record Passes (side : Side) (head : Head) (old new : Life) : Type 0 where
  pub stands : (past : List Item) (payload : List ℕ) → IsLife old past → length payload ≡ head.size
      → IsLife new (passed side head payload ∷ past)
  pub whole : under side new ≡ None
  pub others : under (other side) new ≡ under (other side) old
  pub stamp : new.stamp ≡ old.stamp

-- a SEQ of a side joins the history of a life
pub record Obeys (side : Side) (seq : Seq) (old new : Life) : Type 0 where
  pub stands : (past : List Item) → IsLife old past → IsLife new (told side seq ∷ past)
  pub received : under Side.Received new ≡ under Side.Received old
  pub sent : under Side.Sent new ≡ under Side.Sent old
  pub stamp : new.stamp ≡ old.stamp

-- ---- all lives

-- the same lives
pub record SameChannels (old new : Channels) : Type 0 where
  pub at : (number : ℕ) → life_at number new ≡ life_at number old
  pub stamps : new.stamps ≡ old.stamps
  pub released : new.released ≡ old.released

-- one step of the life of this number, and the other lives stay
pub record Edits (number : ℕ) (Step : Life → Life → Type 0) (old new : Channels) : Type 0 where
  pub before : Life
  pub was : life_at number old ≡ Some before
  pub after : Life
  pub step : Step before after
  pub at : (n : ℕ) → life_at n new ≡ (if number == n then Some after else life_at n old)
  pub stamps : new.stamps ≡ old.stamps
  pub released : new.released ≡ old.released

-- a life of this number begins, with a stamp that no other has had
pub record Starts (number : ℕ) (old new : Channels) : Type 0 where
  pub life : Life
  pub fresh : IsLife life []
  pub idle : (side : Side) → under side life ≡ None
  pub stamp : life.stamp ≡ old.stamps
  pub at : (n : ℕ) → life_at n new ≡ (if number == n then Some life else life_at n old)
  pub stamps : new.stamps ≡ old.stamps + 1
  pub released : new.released ≡ old.released

-- the life of this number has ended
pub record Ends (number : ℕ) (old new : Channels) : Type 0 where
  pub at : (n : ℕ) → life_at n new ≡ (if number == n then None else life_at n old)
  pub stamps : new.stamps ≡ old.stamps
  pub released : new.released ≡ old.released
