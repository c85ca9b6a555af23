-- In a life that is drained nothing goes on.
use Rattle.std.proofs.Common.{◌≡◌, ℕ, ◌+◌, ◌-◌, ◌<◌, ◌≤◌, ◌==◌, nat_lt, Bool, true, false, not, ◌&&◌, ◌||◌, if◌then◌else◌, List, [], ◌∷◌, length, Option, Some, None, refl, sym, ap, ◌∙◌, arith, length-take}
use Rattle.std.specs.Option.{option_map_or}
use Rattle.std.proofs.lemmas.Bool.{lt-ltb, ltb-false}
use Rattle.std.proofs.lemmas.Bool.Decides.{nat_tests}
use Rattle.beep_frame.specs.declared.head.Head.{Head}
use Rattle.beep_frame.specs.Frame.{is_msg, is_reply}
use Rattle.beep_history.specs.declared.journal.Side.{Side}
use Rattle.beep_history.specs.Journal.{Item, began, passed, told, other}
use Rattle.beep_history.specs.Marks.{frames, previous, requests, waiting}
use Rattle.beep_history.specs.Moments.{is_last, replies_ended}
use Rattle.beep_history.specs.Broken.{under_way, KeepsExchangeRules}
use Rattle.beep_history.proofs.SoundLemmas.{unfinished_request, is_open, Sound, waiting-newest}
use Rattle.beep_history.proofs.PassedLemmas.{sound}
use Rattle.beep_history.proofs.UnbrokenLemmas.{min-less}
use Rattle.beep_history.proofs.RepliesLemmas.{answered, same-threshold}
use Rattle.beep_lawful.specs.Closing.{is_drained}
use Rattle.beep_two_journals.proofs.Entries.{IsDrained}
use Rattle.beep_two_journals.proofs.WholesLemmas.{requests_ended, HasRequest, has_request, whole_ended, reply_after}

and-one : (a b : Bool) → (a && b) ≡ true → a ≡ true
and-one true b e = refl
and-one false b e = cc

and-two : (a b : Bool) → (a && b) ≡ true → b ≡ true
and-two true b e = e
and-two false b e = cc

none-count : (n : ℕ) → (n == 0) ≡ true → n ≡ 0
none-count n e = grind (arith, nat_tests)

-- each request is answered where none waits
all-answered : (side : Side) (past : List Item) → (s : Sound side past) → (length (waiting side past) == 0) ≡ true → length (requests side past) ≤ s.oldest
all-answered side past s e =
    let n : ℕ = length (requests side past) in
    let count : length (waiting side past) ≡ n - s.oldest =
    ap length (waiting-newest side past s.oldest s.answered) ∙ length-take (n - s.oldest) (requests side past) ∙ min-less n s.oldest in
    omega (arith, count, none-count (length (waiting side past)) e)

ended-more : (n : ℕ) (b : Bool) → n ≤ (if b then n + 1 else n)
ended-more n true = omega arith
ended-more n false = omega arith

replies-more : (r q : ℕ) (head : Head) (b : Bool) → is_last head ≡ b → r ≤ q → (is_reply head.kind ≡ true → r < q) → (if b then r + 1 else r) ≤ q
replies-more r q head true e h less = let k : r < q = less (and-one (is_reply head.kind) _ e) in omega (arith, k)
replies-more r q head false e h less = h

-- no more replies have ended than requests
pub replies_few : (asker : Side) (past : List Item) → KeepsExchangeRules past → replies_ended (frames (other asker) past) ≤ requests_ended (frames asker past)
replies_few asker [] u = omega arith
replies_few asker (began by head ∷ past) u = replies_few asker past u.2
replies_few asker (told by seq ∷ past) u = replies_few asker past u
replies_few Side.Received (passed Side.Received head payload ∷ past) u =
    let h = replies_few Side.Received past u.2 in
    let g = ended-more (requests_ended (frames Side.Received past)) (is_msg head.kind && not head.more) in
    omega (arith, h, g)
replies_few Side.Sent (passed Side.Sent head payload ∷ past) u =
    let h = replies_few Side.Sent past u.2 in
    let g = ended-more (requests_ended (frames Side.Sent past)) (is_msg head.kind && not head.more) in
    omega (arith, h, g)
replies_few Side.Received (passed Side.Sent head payload ∷ past) u =
    replies-more (replies_ended (frames Side.Sent past)) (requests_ended (frames Side.Received past)) head (is_last head) refl (replies_few Side.Received past u.2)
    (λ r. reply_after Side.Received past head u.2 u.0 r)
replies_few Side.Sent (passed Side.Received head payload ∷ past) u =
    replies-more (replies_ended (frames Side.Received past)) (requests_ended (frames Side.Sent past)) head (is_last head) refl (replies_few Side.Sent past u.2)
    (λ r. reply_after Side.Sent past head u.2 u.0 r)

or-one : (a b : Bool) → (a || b) ≡ false → a ≡ false
or-one true b e = cc
or-one false b e = refl

or-two : (a b : Bool) → (a || b) ≡ false → b ≡ false
or-two true b e = cc
or-two false b e = e

-- a request that isn't whole isn't answered
none-open : (past : List Item) → KeepsExchangeRules past → (s : Sound Side.Received past) → length (requests Side.Received past) ≤ s.oldest
    → (b : Bool) → is_open (under_way Side.Received past) (previous Side.Received past) ≡ b → (b ≡ true → 0 < length (requests Side.Received past)) → b ≡ false
none-open past u s all false e some = refl
none-open past u s all true e some =
    let n : ℕ = length (requests Side.Received past) in
    let w : ℕ = requests_ended (frames Side.Received past) in
    let oldest : s.oldest ≡ replies_ended (frames Side.Sent past) = same-threshold _ _ (λ p. sym (s.answered p) ∙ answered Side.Received past u p) in
    let few = replies_few Side.Received past u in
    let whole : nat_lt (n - 1) w ≡ nat_lt ((n - 1) + 1) n =
    sym (whole_ended Side.Received past (n - 1) u) ∙ s.whole (n - 1) ∙ ap (λ (b : Bool). nat_lt ((n - 1) + (if b then 1 else 0)) n) e in
    absurd (too-few n w s.oldest (replies_ended (frames Side.Sent past)) (some refl) whole all oldest few)
  where
    too-few : (n w o r : ℕ) → 0 < n → nat_lt (n - 1) w ≡ nat_lt ((n - 1) + 1) n → n ≤ o → o ≡ r → r ≤ w → ⊥
    too-few n w o r h e a b c =
        let same : (n - 1) + 1 ≡ n = omega (arith, h) in
        let no : nat_lt ((n - 1) + 1) n ≡ false = rw same (itself n) in
        let less : w ≤ n - 1 = ltb-false (n - 1) w (e ∙ no) in
        omega (arith, less, h, a, b, c)
      where
        itself : (n : ℕ) → nat_lt n n ≡ false
        itself n = grind (arith, nat_tests)

open-some : (past : List Item) → HasRequest Side.Received past → (o p : Option Head) → under_way Side.Received past ≡ o → previous Side.Received past ≡ p
    → is_open o p ≡ true → 0 < length (requests Side.Received past)
open-some past h (Some head) p e f g = by-kind (is_msg head.kind) refl p f g
  where
    by-kind : (b : Bool) → is_msg head.kind ≡ b → (p : Option Head) → previous Side.Received past ≡ p → (b || unfinished_request p) ≡ true → 0 < length (requests Side.Received past)
    by-kind true m p f g = h.going head e m
    by-kind false m None f g = cc
    by-kind false m (Some before) f g = h.last before f (and-one (is_msg before.kind) before.more g)
open-some past h None None e f g = cc
open-some past h None (Some before) e f g = h.last before f (and-one (is_msg before.kind) before.more g)

under-none : (o : Option Head) → ((head : Head) → o ≡ Some head → ⊥) → o ≡ None
under-none None h = refl
under-none (Some head) h = absurd (h head refl)

-- a drained life has nothing under way
pub drained_of : (past : List Item) → KeepsExchangeRules past → is_drained past ≡ true → IsDrained past
drained_of past u e =
    let s = sound Side.Received past u in
    let t = sound Side.Sent past u in
    let peer : length (requests Side.Received past) ≤ s.oldest = all-answered Side.Received past s (and-one (length (waiting Side.Received past) == 0) _ e) in
    let own : length (requests Side.Sent past) ≤ t.oldest = all-answered Side.Sent past t (and-two (length (waiting Side.Received past) == 0) _ e) in
    let closed : is_open (under_way Side.Received past) (previous Side.Received past) ≡ false =
    none-open past u s peer (is_open (under_way Side.Received past) (previous Side.Received past)) refl
    (open-some past (has_request Side.Received past u) (under_way Side.Received past) (previous Side.Received past) refl refl) in
    record {
      own_answered = λ p h. t.answered p ∙ lt-ltb p t.oldest (omega (arith, h, own));
      peer_answered = λ p h. s.answered p ∙ lt-ltb p s.oldest (omega (arith, h, peer));
      idle = under-none (under_way Side.Received past) (λ head under. by-kind head under own closed (is_msg head.kind) refl);
      whole = or-two (option_map_or (λ (head : Head). is_msg head.kind) (under_way Side.Received past) false) (unfinished_request (previous Side.Received past)) closed;
    }
  where
    none-due : (o n : ℕ) → n ≤ o → o < n → ⊥
    none-due o n a b = omega (arith, a, b)

    by-kind : (head : Head) → under_way Side.Received past ≡ Some head → length (requests Side.Sent past) ≤ (sound Side.Sent past u).oldest
        → is_open (under_way Side.Received past) (previous Side.Received past) ≡ false → (b : Bool) → is_msg head.kind ≡ b → ⊥
    by-kind head under own closed true m =
        let no : is_msg head.kind ≡ false =
        ap (λ (o : Option Head). option_map_or (λ (h : Head). is_msg h.kind) o false) (sym under)
        ∙ or-one (option_map_or (λ (h : Head). is_msg h.kind) (under_way Side.Received past) false) (unfinished_request (previous Side.Received past)) closed in
        let bad : true ≡ false = sym m ∙ no in cc
    by-kind head under own closed false m =
        none-due (sound Side.Sent past u).oldest (length (requests Side.Sent past)) own ((sound Side.Sent past u).due head under (ap not m)).waits
