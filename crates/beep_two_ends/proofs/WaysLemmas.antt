-- What tells of one side alone is the same over the items of that side, as they arrive.
use Rattle.std.proofs.Common.{◌≡◌, ℕ, ◌+◌, ◌≤◌, Bool, true, false, ◌||◌, if◌then◌else◌, List, [], ◌∷◌, ◌++◌, refl, ap, arith}
use Rattle.beep_frame.specs.declared.head.Head.{Head}
use Rattle.beep_history.specs.declared.journal.Side.{Side}
use Rattle.beep_history.specs.Journal.{Item, began, passed, told}
use Rattle.beep_history.specs.Marks.{frames, begins_request, Request, requests, is_whole}
use Rattle.beep_history.specs.Broken.{under_way}
use Rattle.beep_history.specs.Moments.{is_last, replies_ended}
use Rattle.beep_two_ends.specs.Seen.{arrived, sent}

-- ---- what arrived

pub frames-arrived : (past : List Item) → frames Side.Received (arrived past) ≡ frames Side.Received past
frames-arrived [] = refl
frames-arrived (began Side.Received head ∷ past) = frames-arrived past
frames-arrived (began Side.Sent head ∷ past) = frames-arrived past
frames-arrived (passed Side.Received head payload ∷ past) = ap (λ (fs : List Head). head ∷ fs) (frames-arrived past)
frames-arrived (passed Side.Sent head payload ∷ past) = frames-arrived past
frames-arrived (told Side.Received seq ∷ past) = frames-arrived past
frames-arrived (told Side.Sent seq ∷ past) = frames-arrived past

pub requests-arrived : (past : List Item) → requests Side.Received (arrived past) ≡ requests Side.Received past
requests-arrived [] = refl
requests-arrived (began Side.Received head ∷ past) = rw (requests-arrived past, frames-arrived past)
requests-arrived (began Side.Sent head ∷ past) = requests-arrived past
requests-arrived (passed Side.Received head payload ∷ past) = requests-arrived past
requests-arrived (passed Side.Sent head payload ∷ past) = requests-arrived past
requests-arrived (told Side.Received seq ∷ past) = requests-arrived past
requests-arrived (told Side.Sent seq ∷ past) = requests-arrived past

pub whole-arrived : (p : ℕ) (past : List Item) → is_whole Side.Received p (arrived past) ≡ is_whole Side.Received p past
whole-arrived p [] = refl
whole-arrived p (began Side.Received head ∷ past) = whole-arrived p past
whole-arrived p (began Side.Sent head ∷ past) = whole-arrived p past
whole-arrived p (passed Side.Received head payload ∷ past) = rw (whole-arrived p past, requests-arrived past)
whole-arrived p (passed Side.Sent head payload ∷ past) = whole-arrived p past
whole-arrived p (told Side.Received seq ∷ past) = whole-arrived p past
whole-arrived p (told Side.Sent seq ∷ past) = whole-arrived p past

pub under_way-arrived : (past : List Item) → under_way Side.Received (arrived past) ≡ under_way Side.Received past
under_way-arrived [] = refl
under_way-arrived (began Side.Received head ∷ past) = refl
under_way-arrived (began Side.Sent head ∷ past) = under_way-arrived past
under_way-arrived (passed Side.Received head payload ∷ past) = refl
under_way-arrived (passed Side.Sent head payload ∷ past) = under_way-arrived past
under_way-arrived (told Side.Received seq ∷ past) = under_way-arrived past
under_way-arrived (told Side.Sent seq ∷ past) = under_way-arrived past

-- ---- what was sent

pub frames-sent : (past : List Item) → frames Side.Received (sent past) ≡ frames Side.Sent past
frames-sent [] = refl
frames-sent (began Side.Received head ∷ past) = frames-sent past
frames-sent (began Side.Sent head ∷ past) = frames-sent past
frames-sent (passed Side.Received head payload ∷ past) = frames-sent past
frames-sent (passed Side.Sent head payload ∷ past) = ap (λ (fs : List Head). head ∷ fs) (frames-sent past)
frames-sent (told Side.Received seq ∷ past) = frames-sent past
frames-sent (told Side.Sent seq ∷ past) = frames-sent past

pub requests-sent : (past : List Item) → requests Side.Received (sent past) ≡ requests Side.Sent past
requests-sent [] = refl
requests-sent (began Side.Received head ∷ past) = requests-sent past
requests-sent (began Side.Sent head ∷ past) = rw (requests-sent past, frames-sent past)
requests-sent (passed Side.Received head payload ∷ past) = requests-sent past
requests-sent (passed Side.Sent head payload ∷ past) = requests-sent past
requests-sent (told Side.Received seq ∷ past) = requests-sent past
requests-sent (told Side.Sent seq ∷ past) = requests-sent past

pub whole-sent : (p : ℕ) (past : List Item) → is_whole Side.Received p (sent past) ≡ is_whole Side.Sent p past
whole-sent p [] = refl
whole-sent p (began Side.Received head ∷ past) = whole-sent p past
whole-sent p (began Side.Sent head ∷ past) = whole-sent p past
whole-sent p (passed Side.Received head payload ∷ past) = whole-sent p past
whole-sent p (passed Side.Sent head payload ∷ past) = rw (whole-sent p past, requests-sent past)
whole-sent p (told Side.Received seq ∷ past) = whole-sent p past
whole-sent p (told Side.Sent seq ∷ past) = whole-sent p past

pub under_way-sent : (past : List Item) → under_way Side.Received (sent past) ≡ under_way Side.Sent past
under_way-sent [] = refl
under_way-sent (began Side.Received head ∷ past) = under_way-sent past
under_way-sent (began Side.Sent head ∷ past) = refl
under_way-sent (passed Side.Received head payload ∷ past) = under_way-sent past
under_way-sent (passed Side.Sent head payload ∷ past) = refl
under_way-sent (told Side.Received seq ∷ past) = under_way-sent past
under_way-sent (told Side.Sent seq ∷ past) = under_way-sent past

-- ---- what came before newer items

pub record Before (xs ys : List Request) : Type 0 where
  pub newer : List Request
  pub is : ys ≡ newer ++ xs

before-step : (xs ys : List Request) (r : Request) (b : Bool) → Before xs ys → Before xs (if b then r ∷ ys else ys)
before-step xs ys r true w = record { newer = r ∷ w.newer; is = ap (λ (rs : List Request). r ∷ rs) w.is }
before-step xs ys r false w = w

-- the earlier requests stay
pub requests-before : (newer past : List Item) → Before (requests Side.Received past) (requests Side.Received (newer ++ past))
requests-before [] past = record { newer = []; is = refl }
requests-before (began Side.Received head ∷ newer) past =
    before-step _ _ _ (begins_request Side.Received (newer ++ past) head) (requests-before newer past)
requests-before (began Side.Sent head ∷ newer) past = requests-before newer past
requests-before (passed by head payload ∷ newer) past = requests-before newer past
requests-before (told by seq ∷ newer) past = requests-before newer past

or-right-true : (a b : Bool) → b ≡ true → (a || b) ≡ true
or-right-true true b e = refl
or-right-true false b e = e

-- what has wholly passed stays so
pub whole-before : (p : ℕ) (newer past : List Item) → is_whole Side.Received p past ≡ true → is_whole Side.Received p (newer ++ past) ≡ true
whole-before p [] past e = e
whole-before p (began by head ∷ newer) past e = whole-before p newer past e
whole-before p (passed by head payload ∷ newer) past e = or-right-true _ _ (whole-before p newer past e)
whole-before p (told by seq ∷ newer) past e = whole-before p newer past e

ended-step : (least n : ℕ) (b : Bool) → least ≤ n → least ≤ (if b then n + 1 else n)
ended-step least n true h = omega arith
ended-step least n false h = h

-- replies that have replies_ended stay so
pub ended-before : (newer past : List Item) → replies_ended (frames Side.Received past) ≤ replies_ended (frames Side.Received (newer ++ past))
ended-before [] past = omega arith
ended-before (began by head ∷ newer) past = ended-before newer past
ended-before (passed Side.Received head payload ∷ newer) past =
    ended-step (replies_ended (frames Side.Received past)) (replies_ended (frames Side.Received (newer ++ past))) (is_last head) (ended-before newer past)
ended-before (passed Side.Sent head payload ∷ newer) past = ended-before newer past
ended-before (told by seq ∷ newer) past = ended-before newer past
