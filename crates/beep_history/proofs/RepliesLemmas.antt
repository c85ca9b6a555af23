-- Where no rule of the exchange was broken, the frames of one side alone tell which reply each belongs to.
use Rattle.std.proofs.Common.{◌≡◌, ℕ, ◌+◌, ◌==◌, nat_lt, Bool, true, false, not, ◌&&◌, ◌||◌, if◌then◌else◌, List, [], ◌∷◌, Some, refl, sym, ap, ◌∙◌, arith}
use Rattle.std.specs.List.{list_any}
use Rattle.std.proofs.lemmas.Bool.{lt-ltb, le-ltb}
use Rattle.std.proofs.lemmas.Bool.Decides.{nat_tests}
use Rattle.beep_frame.specs.declared.head.Head.{Head}
use Rattle.beep_history.specs.declared.journal.Side.{Side}
use Rattle.beep_frame.specs.Frame.{is_msg, is_reply}
use Rattle.beep_history.specs.Journal.{Item, began, passed, told, other}
use Rattle.beep_history.specs.Marks.{frames, reply, ends_reply, is_answered, position_of}
use Rattle.beep_history.specs.Broken.{under_way, KeepsExchangeRules}
use Rattle.beep_history.proofs.StepsLemmas.{reply-passed-theirs}
use Rattle.beep_history.proofs.SoundLemmas.{IsDue, Sound}
use Rattle.beep_history.proofs.PassedLemmas.{sound, reply-grown}
use Rattle.beep_history.specs.Moments.{replies_ended, reply_at}

answered-at-step : (p n : ℕ) (r e : Bool) (rest : Bool) (here : Bool) → (n == p) ≡ here → rest ≡ nat_lt p n
    → (if r && here then e || rest else rest) ≡ nat_lt p (if r && e then n + 1 else n)
answered-at-step p n false e rest here at before = before
answered-at-step p n true true rest true at before = sym (lt-ltb _ _ (grind (arith, nat_tests)))
answered-at-step p n true false rest true at before = before
answered-at-step p n true true rest false at before = rw before (grind (arith, nat_tests))
answered-at-step p n true false rest false at before = before

any-of : (p : ℕ) (head : Head) (fs : List Head) (b : Bool)
    → list_any ends_reply (if b then head ∷ reply_at p fs else reply_at p fs)
    ≡ (if b then ends_reply head || list_any ends_reply (reply_at p fs) else list_any ends_reply (reply_at p fs))
any-of p head fs true = refl
any-of p head fs false = refl

-- the reply at a place is ended where more replies are
pub answered-at : (p : ℕ) (fs : List Head) → list_any ends_reply (reply_at p fs) ≡ nat_lt p (replies_ended fs)
answered-at p [] = sym (le-ltb _ _ (omega arith))
answered-at p (head ∷ fs) =
    any-of p head fs (is_reply head.kind && replies_ended fs == p)
    ∙ answered-at-step p (replies_ended fs) (is_reply head.kind) (ends_reply head) (list_any ends_reply (reply_at p fs)) (replies_ended fs == p) refl (answered-at p fs)

-- two numbers with the same numbers below them are one
pub same-threshold : (a b : ℕ) → ((p : ℕ) → nat_lt p a ≡ nat_lt p b) → a ≡ b
same-threshold a b same =
    let x : nat_lt a a ≡ nat_lt a b = same a in
    let y : nat_lt b a ≡ nat_lt b b = same b in
    grind (arith, nat_tests)

replies-theirs : (side : Side) (past : List Item) (head : Head) (payload : List ℕ) (p : ℕ) (b : Bool) → is_reply head.kind ≡ b
    → (s : Sound side past) → (b ≡ true → IsDue side s.oldest past head)
    → ((q : ℕ) → reply side q past ≡ reply_at q (frames (other side) past))
    → reply side p (passed (other side) head payload ∷ past) ≡ (if b && replies_ended (frames (other side) past) == p then head ∷ reply_at p (frames (other side) past) else reply_at p (frames (other side) past))
replies-theirs side past head payload p false r s due before = rw (reply-passed-theirs head payload past side p, r) (before p)
replies-theirs side past head payload p true r s due before =
    let oldest : s.oldest ≡ replies_ended (frames (other side) past) = same-threshold _ _
    (λ q. sym (s.answered q) ∙ ap (list_any ends_reply) (before q) ∙ answered-at q (frames (other side) past)) in
    rw (reply-grown side past head payload s.oldest r (due refl) p, oldest, before p)

-- each reply is what the frames of the other side give
pub replies : (side : Side) (past : List Item) → KeepsExchangeRules past → (p : ℕ) → reply side p past ≡ reply_at p (frames (other side) past)
replies side [] u p = refl
replies side (began by head ∷ past) u p = replies side past u.2 p
replies side (told by seq ∷ past) u p = replies side past u p
replies Side.Received (passed Side.Received head payload ∷ past) u p = replies Side.Received past u.2 p
replies Side.Sent (passed Side.Sent head payload ∷ past) u p = replies Side.Sent past u.2 p
replies Side.Received (passed Side.Sent head payload ∷ past) u p =
    let s = sound Side.Received past u.2 in
    replies-theirs Side.Received past head payload p (is_reply head.kind) refl s (λ r. s.due head u.0 r) (replies Side.Received past u.2)
replies Side.Sent (passed Side.Received head payload ∷ past) u p =
    let s = sound Side.Sent past u.2 in
    replies-theirs Side.Sent past head payload p (is_reply head.kind) refl s (λ r. s.due head u.0 r) (replies Side.Sent past u.2)

-- a request is answered where the other side has ended more replies
pub answered : (side : Side) (past : List Item) → KeepsExchangeRules past → (p : ℕ) → is_answered side p past ≡ nat_lt p (replies_ended (frames (other side) past))
answered side past u p = ap (list_any ends_reply) (replies side past u p) ∙ answered-at p (frames (other side) past)

-- ---- the request that a reply names

position-named : (side : Side) (past : List Item) (head : Head) (oldest : ℕ) → is_reply head.kind ≡ true → IsDue (other side) oldest past head
    → oldest ≡ replies_ended (frames side past) → position_of side past head ≡ replies_ended (frames side past)
position-named side past head oldest r d e = rw (not-msg (is_msg head.kind) r, d.found) (d.at ∙ e)
  where
    not-msg : (b : Bool) → not b ≡ true → b ≡ false
    not-msg true e = cc
    not-msg false e = refl

pub position-is : (side : Side) (past : List Item) (head : Head) → KeepsExchangeRules past → under_way side past ≡ Some head → is_reply head.kind ≡ true
    → position_of side past head ≡ replies_ended (frames side past)
position-is Side.Received past head u under r =
    let s = sound Side.Sent past u in
    position-named Side.Received past head s.oldest r (s.due head under r)
    (same-threshold _ _ (λ p. sym (s.answered p) ∙ answered Side.Sent past u p))
position-is Side.Sent past head u under r =
    let s = sound Side.Received past u in
    position-named Side.Sent past head s.oldest r (s.due head under r)
    (same-threshold _ _ (λ p. sym (s.answered p) ∙ answered Side.Received past u p))
