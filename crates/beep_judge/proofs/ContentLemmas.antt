-- The rule that a frame's content breaks.
use Rattle.std.proofs.Common.{◌≡◌, ℕ, ◌==◌, Bool, true, false, not, ◌&&◌, if◌then◌else◌, List, Option, Some, None, refl, sym, ap, ◌∙◌}
use Rattle.std.specs.Prelude.{option_map, Result, Ok, Err, OnOk}
use Rattle.beep_frame.specs.declared.head.Head.{Head}
use Rattle.beep_frame.specs.declared.rule.Rule.{Rule}
use Rattle.beep_frame.specs.Frame.{is_msg, is_reply}
use Rattle.beep_history.specs.declared.journal.Side.{Side}
use Rattle.beep_history.specs.Journal.{Item}
use Rattle.beep_journal.specs.Zero.{zero_history, completes_form}
use Rattle.beep_journal.specs.Broken.{broken_content}
use Rattle.beep_judge.specs.declared.half.Frame.{Frame}
use Rattle.beep_judge.specs.declared.half.Half.{Half}
use Rattle.beep_judge.specs.declared.channels.Channels.{Channels}
use Rattle.beep_judge.specs.Judges.{IsKept}

-- the frame under way has this header
pub same-head : (frame : Frame) (under : Option Frame) (head : Head) → under ≡ Some frame → option_map (λ (f : Frame). f.head) under ≡ Some head → frame.head ≡ head
same-head frame under head is begun =
    let e : Some frame.head ≡ Some head = ap (λ (o : Option Frame). option_map (λ (f : Frame). f.head) o) (sym is) ∙ begun in cc

module _ (side : Side) (journal : List Item) (head : Head) (payload : List ℕ) where
  -- only the last frame of a reply of channel zero is judged
  pub content-none : (head.channel == 0 && is_reply head.kind && not head.more) ≡ false → None ≡ broken_content side journal head payload
  unfolding broken_content
  content-none e = by (head.channel == 0) (is_reply head.kind) (not head.more) (not (completes_form side head payload (zero_history journal))) e
    where
      by : (a b c d : Bool) → (a && b && c) ≡ false → None ≡ (if a && b && c && d then Some Rule.ZeroReply else None)
      by false b c d e = refl
      by true false c d e = refl
      by true true false d e = refl
      by true true true d e = cc

  pub content-above : (head.channel == 0) ≡ false → None ≡ broken_content side journal head payload
  content-above e = content-none (by (head.channel == 0) (is_reply head.kind) (not head.more) e)
    where
      by : (a b c : Bool) → a ≡ false → (a && b && c) ≡ false
      by true b c e = cc
      by false b c e = refl

  pub content-part : head.more ≡ true → None ≡ broken_content side journal head payload
  content-part e = content-none (by (head.channel == 0) (is_reply head.kind) head.more e)
    where
      by : (a b m : Bool) → m ≡ true → (a && b && not m) ≡ false
      by a b false e = cc
      by true true true e = refl
      by true false true e = refl
      by false b true e = refl

  pub content-request : is_msg head.kind ≡ true → None ≡ broken_content side journal head payload
  content-request e = content-none (by (head.channel == 0) (is_msg head.kind) (not head.more) e)
    where
      by : (a m c : Bool) → m ≡ true → (a && not m && c) ≡ false
      by a false c e = cc
      by true true c e = refl
      by false true c e = refl

  pub content-reply : (fits : Bool) → (head.channel == 0) ≡ true → is_msg head.kind ≡ false → head.more ≡ false → fits ≡ completes_form side head payload (zero_history journal)
      → (if fits then None else Some Rule.ZeroReply) ≡ broken_content side journal head payload
  unfolding broken_content
  content-reply fits zero reply last form =
      by (head.channel == 0) (is_msg head.kind) head.more fits (completes_form side head payload (zero_history journal)) zero reply last form
    where
      by : (a m l f g : Bool) → a ≡ true → m ≡ false → l ≡ false → f ≡ g → (if f then None else Some Rule.ZeroReply) ≡ (if a && not m && not l && not g then Some Rule.ZeroReply else None)
      by false m l f g x y z e = cc
      by true true l f g x y z e = cc
      by true false true f g x y z e = cc
      by true false false true true x y z e = refl
      by true false false true false x y z e = cc
      by true false false false true x y z e = cc
      by true false false false false x y z e = refl

-- ---- a session seen from either side

pub to-sent : (journal : List Item) (all : Channels) (received sent : Half) → IsKept Side.Received journal all received sent → IsKept Side.Sent journal all sent received
to-sent journal all received sent s = record { channels = s.channels; mine = s.theirs; theirs = s.mine }

pub to-received : (journal : List Item) (all : Channels) (received sent : Half) → IsKept Side.Sent journal all sent received → IsKept Side.Received journal all received sent
to-received journal all received sent s = record { channels = s.channels; mine = s.theirs; theirs = s.mine }

-- an item that leaves both sides as they are
pub either : (side : Side) (journal later : List Item) (old new : Channels) (received sent : Half)
    → ((mine theirs : Half) → IsKept side journal old mine theirs → IsKept side later new mine theirs)
    → IsKept Side.Received journal old received sent → IsKept Side.Received later new received sent
either Side.Received journal later old new received sent step s = step received sent s
either Side.Sent journal later old new received sent step s =
    to-received later new received sent (step sent received (to-sent journal old received sent s))

pub either-value : (side : Side) (journal : List Item) (all : Channels) (received sent : Half) (a b : Option Rule)
    → ((mine theirs : Half) → IsKept side journal all mine theirs → a ≡ b) → IsKept Side.Received journal all received sent → a ≡ b
either-value Side.Received journal all received sent a b value s = value received sent s
either-value Side.Sent journal all received sent a b value s = value sent received (to-sent journal all received sent s)

-- what holds after an answer leads to another fact
pub ok-map : {T E P Q : Type 0} (result : Result T E) → (P → Q) → OnOk result P → OnOk result Q
ok-map (Ok x) f p = f p
ok-map (Err e) f p = tt
