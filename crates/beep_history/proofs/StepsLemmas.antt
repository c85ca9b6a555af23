-- What one item of a side, or of the other, adds to what a history tells of a side.
use Rattle.std.proofs.Common.{◌≡◌, ℕ, ◌+◌, ◌==◌, false, not, ◌&&◌, ◌||◌, if◌then◌else◌, List, ◌∷◌, length, Some, None, refl}
use Rattle.std.specs.Option.{option_map_or}
use Rattle.beep_frame.specs.declared.head.Head.{Head}
use Rattle.beep_history.specs.declared.journal.Side.{Side}
use Rattle.beep_frame.specs.Frame.{is_msg, is_reply}
use Rattle.beep_history.specs.Journal.{Item, began, passed, other}
use Rattle.beep_history.specs.Marks.{frames, begins_request, requests, latest, is_whole, reply}
use Rattle.beep_history.specs.Broken.{under_way}

module _ (head : Head) (past : List Item) where
  pub under_way-began-mine : (side : Side) → under_way side (began side head ∷ past) ≡ Some head
  under_way-began-mine Side.Received = refl
  under_way-began-mine Side.Sent = refl

  pub under_way-began-theirs : (side : Side) → under_way side (began (other side) head ∷ past) ≡ under_way side past
  under_way-began-theirs Side.Received = refl
  under_way-began-theirs Side.Sent = refl

  pub requests-began-mine : (side : Side) → requests side (began side head ∷ past)
      ≡ (if begins_request side past head
      then record { position = length (requests side past); number = head.msgno } ∷ requests side past
      else requests side past)
  requests-began-mine Side.Received = refl
  requests-began-mine Side.Sent = refl

  pub requests-began-theirs : (side : Side) → requests side (began (other side) head ∷ past) ≡ requests side past
  requests-began-theirs Side.Received = refl
  requests-began-theirs Side.Sent = refl

module _ (head : Head) (payload : List ℕ) (past : List Item) where
  pub frames-passed-mine : (side : Side) → frames side (passed side head payload ∷ past) ≡ head ∷ frames side past
  frames-passed-mine Side.Received = refl
  frames-passed-mine Side.Sent = refl

  pub frames-passed-theirs : (side : Side) → frames side (passed (other side) head payload ∷ past) ≡ frames side past
  frames-passed-theirs Side.Received = refl
  frames-passed-theirs Side.Sent = refl

  pub under_way-passed-mine : (side : Side) → under_way side (passed side head payload ∷ past) ≡ None
  under_way-passed-mine Side.Received = refl
  under_way-passed-mine Side.Sent = refl

  pub under_way-passed-theirs : (side : Side) → under_way side (passed (other side) head payload ∷ past) ≡ under_way side past
  under_way-passed-theirs Side.Received = refl
  under_way-passed-theirs Side.Sent = refl

  pub reply-passed-mine : (side : Side) (p : ℕ) → reply side p (passed side head payload ∷ past) ≡ reply side p past
  reply-passed-mine Side.Received p = refl
  reply-passed-mine Side.Sent p = refl

  pub reply-passed-theirs : (side : Side) (p : ℕ) → reply side p (passed (other side) head payload ∷ past)
      ≡ (if is_reply head.kind && option_map_or (λ request. request.position == p) (latest side head.msgno past) false
      then head ∷ reply side p past
      else reply side p past)
  reply-passed-theirs Side.Received p = refl
  reply-passed-theirs Side.Sent p = refl

  pub whole-passed-mine : (side : Side) (p : ℕ) → is_whole side p (passed side head payload ∷ past)
      ≡ ((is_msg head.kind && not head.more && length (requests side past) == p + 1) || is_whole side p past)
  whole-passed-mine Side.Received p = refl
  whole-passed-mine Side.Sent p = refl

  pub whole-passed-theirs : (side : Side) (p : ℕ) → is_whole side p (passed (other side) head payload ∷ past) ≡ is_whole side p past
  whole-passed-theirs Side.Received p = refl
  whole-passed-theirs Side.Sent p = refl

-- ---- the frame under way of the other side

module _ (head : Head) (past : List Item) where
  pub under_way-other-began : (side : Side) → under_way (other side) (began side head ∷ past) ≡ under_way (other side) past
  under_way-other-began Side.Received = refl
  under_way-other-began Side.Sent = refl

pub under_way-other-passed : (head : Head) (payload : List ℕ) (past : List Item) (side : Side)
    → under_way (other side) (passed side head payload ∷ past) ≡ under_way (other side) past
under_way-other-passed head payload past Side.Received = refl
under_way-other-passed head payload past Side.Sent = refl
