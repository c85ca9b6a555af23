-- The marks of a side are known by its items alone, so that those which arrived are the first of those which were sent.
use Rattle.std.proofs.Common.{◌≡◌, ℕ, ◌-◌, ◌==◌, Bool, true, false, not, ◌&&◌, if◌then◌else◌, List, [], ◌∷◌, ◌++◌, length, Some, refl, sym, ap, ◌∙◌, append_assoc}
use Rattle.beep_frame.specs.declared.head.Head.{Head}
use Rattle.beep_frame.specs.Frame.{is_msg}
use Rattle.beep_history.specs.declared.journal.Side.{Side}
use Rattle.beep_history.specs.Journal.{Item, began, passed, told}
use Rattle.beep_history.specs.Marks.{frames, requests, position_of, Mark, frame_marks, marks}
use Rattle.beep_history.specs.Moments.{replies_ended}
use Rattle.beep_history.specs.Broken.{under_way, KeepsExchangeRules}
use Rattle.beep_history.proofs.RepliesLemmas.{position-is}
use Rattle.beep_two_ends.specs.Seen.{arrived, sent}
use Rattle.beep_two_ends.proofs.WaysLemmas.{frames-arrived, requests-arrived, frames-sent, requests-sent}

append-nil : (xs : List Mark) → xs ++ [] ≡ xs
append-nil [] = refl
append-nil (x ∷ xs) = rw (append-nil xs) refl

-- the p-th reply answers the p-th request
abbrev pub way_position : List Item → Head → ℕ
way_position past head = if is_msg head.kind then length (requests Side.Received past) - 1 else replies_ended (frames Side.Received past)

abbrev pub marks_at : ℕ → Head → List ℕ → List Mark
marks_at position head payload =
    if not (head.channel == 0 && is_msg head.kind && position == 0)
    then frame_marks (record { kind = head.kind; request = position; ansno = head.ansno }) head payload
    else []

abbrev pub way_marks : List Item → List Mark
way_marks [] = []
way_marks (began by head ∷ past) = way_marks past
way_marks (passed by head payload ∷ past) = way_marks past ++ marks_at (way_position past head) head payload
way_marks (told by seq ∷ past) = way_marks past

place-is : (side : Side) (past : List Item) (head : Head) → KeepsExchangeRules past → under_way side past ≡ Some head
    → position_of side past head ≡ (if is_msg head.kind then length (requests side past) - 1 else replies_ended (frames side past))
place-is side past head u under = by-kind (is_msg head.kind) refl (position_of side past head) (λ m. rw m refl)
    (λ m. position-is side past head u under (ap not m))
  where
    by-kind : (b : Bool) → is_msg head.kind ≡ b → (p : ℕ) → (is_msg head.kind ≡ true → p ≡ length (requests side past) - 1)
        → (is_msg head.kind ≡ false → p ≡ replies_ended (frames side past)) → p ≡ (if b then length (requests side past) - 1 else replies_ended (frames side past))
    by-kind true m p f g = f m
    by-kind false m p f g = g m

pub marks-arrived : (past : List Item) → KeepsExchangeRules past → marks Side.Received past ≡ way_marks (arrived past)
marks-arrived [] u = refl
marks-arrived (began Side.Received head ∷ past) u = marks-arrived past u.2
marks-arrived (began Side.Sent head ∷ past) u = marks-arrived past u.2
marks-arrived (passed Side.Received head payload ∷ past) u =
    rw (place-is Side.Received past head u.2 u.0, marks-arrived past u.2, requests-arrived past, frames-arrived past) refl
marks-arrived (passed Side.Sent head payload ∷ past) u = append-nil _ ∙ marks-arrived past u.2
marks-arrived (told Side.Received seq ∷ past) u = marks-arrived past u
marks-arrived (told Side.Sent seq ∷ past) u = marks-arrived past u

pub marks-sent : (past : List Item) → KeepsExchangeRules past → marks Side.Sent past ≡ way_marks (sent past)
marks-sent [] u = refl
marks-sent (began Side.Received head ∷ past) u = marks-sent past u.2
marks-sent (began Side.Sent head ∷ past) u = marks-sent past u.2
marks-sent (passed Side.Sent head payload ∷ past) u =
    rw (place-is Side.Sent past head u.2 u.0, marks-sent past u.2, requests-sent past, frames-sent past) refl
marks-sent (passed Side.Received head payload ∷ past) u = append-nil _ ∙ marks-sent past u.2
marks-sent (told Side.Received seq ∷ past) u = marks-sent past u
marks-sent (told Side.Sent seq ∷ past) u = marks-sent past u

record MarksBefore (xs ys : List Mark) : Type 0 where
  more : List Mark
  is : ys ≡ xs ++ more

way-append : (newer past : List Item) → MarksBefore (way_marks past) (way_marks (newer ++ past))
way-append [] past = record { more = []; is = sym (append-nil _) }
way-append (began by head ∷ newer) past = way-append newer past
way-append (passed by head payload ∷ newer) past =
    let w = way-append newer past in
    record {
      more = w.more ++ marks_at (way_position (newer ++ past) head) head payload;
      is = ap (λ (xs : List Mark). xs ++ marks_at (way_position (newer ++ past) head) head payload) w.is ∙ append_assoc (way_marks past) w.more _;
    }
way-append (told by seq ∷ newer) past = way-append newer past

-- what arrived is a prefix of what was sent
pub marks_prefix : (mine theirs newer : List Item) → KeepsExchangeRules mine → KeepsExchangeRules theirs → sent mine ≡ newer ++ arrived theirs
    → (more : List Mark) × (marks Side.Sent mine ≡ marks Side.Received theirs ++ more)
marks_prefix mine theirs newer u v e =
    let w = way-append newer (arrived theirs) in
    (w.more, marks-sent mine u ∙ ap way_marks e ∙ w.is ∙ ap (λ (xs : List Mark). xs ++ w.more) (sym (marks-arrived theirs v)))
