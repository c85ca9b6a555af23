-- What a grant makes of lives, done to the channels.
use Rattle.std.proofs.Common.{◌≡◌, ℕ, ◌==◌, nat_lt, Bool, true, false, not, ◌&&◌, ◌||◌, if◌then◌else◌, List, [], ◌∷◌, Option, Some, None, sym, ap, ◌∙◌, subst}
use Rattle.beep_asked.specs.beep_mgmt.specs.Form.{Form, greeting, start, chosen, close, okay, fault}
use Rattle.beep_asked.specs.beep_history.specs.Journal.{Item}
use Rattle.beep_asked.specs.beep_journal.specs.Lives.{is_live}
use Rattle.beep_asked.specs.beep_journal.specs.Zero.{channel_of, events}
use Rattle.beep_asked.specs.beep_channel.specs.Held.{Live}
use Rattle.beep_asked.specs.beep_standing.specs.Standing.{Marks, AreLive, AreLiveBy, with_marks}
use Rattle.beep_asked.specs.beep_standing.specs.Moving.{MovesNone, BeginsWhere, EndsWhere}
use Rattle.beep_asked.specs.beep_standing.proofs.LivesLemmas.{lives-stay, life-begins, life-ends}
use Rattle.beep_asked.specs.Kept.{Kept}
use Rattle.beep_asked.specs.Asked.{SaysLive}
use Rattle.beep_asked.specs.Granting.{IsGrantedAs, IsGranted}
use Rattle.beep_management.specs.Moved.{is_live_in, JoinsWhere, LeavesWhere, Does, marks_after}

-- the channels say which numbers are live
pub says-live : (size : ℕ) (lives journal : List Item) (given taken : Marks) (channels : List Live) → AreLive size lives journal given taken channels
    → SaysLive (is_live_in channels) (events lives)
says-live size lives journal given taken channels s n above = sym (s.there n) ∙ ap (λ (b : Bool). b || is_live n (events lives)) above

module _ (size : ℕ) (lives : List Item) (given taken : Marks) (old new : List Live) (item : Item) (channel : Live)
    (s : AreLive size lives (item ∷ lives) given taken old) (zero : (channel_of item == 0) ≡ true) where
  none-done : MovesNone (events lives) (events (item ∷ lives)) → new ≡ old → AreLiveBy size (item ∷ lives) given taken new
  none-done none same = subst (λ (l : List Live). AreLiveBy size (item ∷ lives) given taken l) (sym same) (lives-stay size lives given taken old item s none zero)

  start-done : (number : ℕ) (b : Bool) → BeginsWhere b number (events lives) (events (item ∷ lives)) → JoinsWhere b size number channel old new
      → AreLiveBy size (item ∷ lives) (if b then with_marks number [] given else given) (if b then with_marks number [] taken else taken) new
  start-done number true begins joins = life-begins size number lives given taken old new item s zero begins channel joins.0.is joins.0.stands joins.1
  start-done number false none same = none-done none same

  close-done : (number : ℕ) (b : Bool) → EndsWhere b number (events lives) (events (item ∷ lives)) → LeavesWhere b number old new
      → AreLiveBy size (item ∷ lives) given taken new
  close-done number true ends leaves = life-ends size number lives given taken old new item s zero ends leaves
  close-done number false none same = none-done none same

  done-as : (form : Option Form) (names : Bool) → IsGrantedAs (is_live_in old) form names (events lives) (events (item ∷ lives)) → Does size form names channel old new
      → AreLiveBy size (item ∷ lives) (marks_after form old given) (marks_after form old taken) new
  done-as None names g d = none-done g d
  done-as (Some (greeting features localize profiles)) names g d = none-done g d
  done-as (Some (start number server profiles)) names g d = start-done number (nat_lt 0 number && not (is_live_in old number)) g d
  done-as (Some (chosen profile)) names g d = none-done g d
  done-as (Some (close number code note)) names g d = close-done number names g d
  done-as (Some okay) names g d = none-done g d
  done-as (Some (fault code note)) names g d = none-done g d

pub grant-done : (size : ℕ) (lives : List Item) (given taken : Marks) (old new : List Live) (item : Item) (one : Kept) (channel : Live)
    → AreLive size lives (item ∷ lives) given taken old → (channel_of item == 0) ≡ true → IsGranted (is_live_in old) one (events lives) (events (item ∷ lives))
    → Does size one.said one.names channel old new
    → AreLiveBy size (item ∷ lives) (marks_after one.said old given) (marks_after one.said old taken) new
grant-done size lives given taken old new item one channel s zero g d = done-as size lives given taken old new item channel s zero one.said one.names g d
