-- The replies that were sent stand at their places, and answer requests that have passed. So what agrees with replies modulo 2^64 is of them.
use Rattle.std.proofs.Common.{◌≡◌, ℕ, ◌+◌, ◌<◌, ◌==◌, nat_lt, Bool, true, false, not, ◌&&◌, if◌then◌else◌, List, [], ◌∷◌, ◌++◌, length, map, filter, Some, refl, sym, ap, ◌∙◌, subst, arith}
use Rattle.std.specs.List.{list_all}
use Rattle.std.proofs.lemmas.Bool.Decides.{nat_tests}
use Rattle.std.proofs.lemmas.List.{append-nil}
use Rattle.beep_script.specs.beep_frame.specs.declared.head.Head.{Head}
use Rattle.beep_script.specs.beep_frame.specs.declared.tag.Tag.{Tag}
use Rattle.beep_script.specs.beep_frame.specs.Frame.{is_msg, is_ans, is_reply}
use Rattle.beep_script.specs.beep_history.specs.declared.journal.Side.{Side}
use Rattle.beep_script.specs.beep_history.specs.Journal.{Item, began, passed, told}
use Rattle.beep_script.specs.beep_history.specs.Marks.{Mark, octet, end, frames, requests, previous, position_of, tag_of, frame_marks, carries, marks, mark_modulo_2_64}
use Rattle.beep_script.specs.beep_history.specs.Moments.{replies_ended}
use Rattle.beep_script.specs.beep_history.specs.Broken.{under_way, KeepsExchangeRules}
use Rattle.beep_script.specs.beep_history.proofs.SoundLemmas.{is_open}
use Rattle.beep_script.specs.beep_history.proofs.PassedLemmas.{sound}
use Rattle.beep_script.specs.beep_history.proofs.RepliesLemmas.{position-is}
use Rattle.beep_script.specs.beep_talk.specs.Plan.{PlainPlan}
use Rattle.beep_script.specs.Script.{BeginsWith}
use Rattle.beep_script.specs.Sending.{is_of_reply}
use Rattle.beep_replies.specs.Replies.{ends_msg, whole_requests}
use Rattle.beep_replies.proofs.CountLemmas.{IsAbove, counts, passed-count}
use Rattle.beep_replies.proofs.PlacedLemmas.{after, Placed, after-append, placed-append, AllBelow, below-append, below-more, octets-placed, octets-after, octets-below, replies_marks, replies-placed, placed-front, front-of-replies}

-- ---- what was sent

-- the marks that were sent stand at their places, and name requests that have passed
pub record SentPlaced (past : List Item) : Type 0 where
  pub placed : Placed 0 (marks Side.Sent past)
  pub ended : after 0 (marks Side.Sent past) ≡ replies_ended (frames Side.Sent past)
  pub below : AllBelow (whole_requests Side.Received past) (marks Side.Sent past)

pub all-front : {X : Type 0} (p : X → Bool) (xs ys : List X) → list_all p (xs ++ ys) ≡ true → (list_all p xs ≡ true) × (list_all p ys ≡ true)
all-front p [] ys all = (refl, all)
all-front p (x ∷ xs) ys all = of (p x) all (all-front p xs ys)
  where
    of : (b : Bool) → (b && list_all p (xs ++ ys)) ≡ true → (list_all p (xs ++ ys) ≡ true → (list_all p xs ≡ true) × (list_all p ys ≡ true))
        → ((b && list_all p xs) ≡ true) × (list_all p ys ≡ true)
    of true e rest = rest e
    of false e rest = absurd cc

not-msg : (b : Bool) → b ≡ false → not b ≡ true
not-msg true e = absurd cc
not-msg false e = refl

-- a frame that is no reply has no mark where all marks are of replies
no-marks : (tag : Tag) (head : Head) (payload : List ℕ) → is_msg tag.kind ≡ true → list_all is_of_reply (frame_marks tag head payload) ≡ true → frame_marks tag head payload ≡ []
no-marks tag head (o ∷ octets) msg all = absurd (clash (is_msg tag.kind) msg (list_all is_of_reply (map (octet tag) octets ++ (if head.more then [] else end tag ∷ []))) all)
  where
    clash : (b : Bool) → b ≡ true → (c : Bool) → (not b && c) ≡ true → ⊥
    clash true e c f = absurd cc
    clash false e c f = absurd cc
no-marks tag head [] msg all = of head.more all
  where
    clash : (b : Bool) → b ≡ true → (not b && true) ≡ true → ⊥
    clash true e f = absurd cc
    clash false e f = absurd cc

    of : (b : Bool) → list_all is_of_reply (if b then [] else end tag ∷ []) ≡ true → (if b then [] else end tag ∷ []) ≡ []
    of true e = refl
    of false e = absurd (clash (is_msg tag.kind) msg e)

module _ (past : List Item) (head : Head) (payload : List ℕ) (keeps : KeepsExchangeRules past) (under : under_way Side.Sent past ≡ Some head) (above : (head.channel == 0) ≡ false)
    (are : IsAbove past) (before : SentPlaced past) where
  abbrev new : List Item
  new = passed Side.Sent head payload ∷ past

  abbrev tag : Tag
  tag = tag_of Side.Sent past head

  pub sent-marks : marks Side.Sent new ≡ marks Side.Sent past ++ frame_marks tag head payload
  sent-marks = ap (λ (b : Bool). marks Side.Sent past ++ (if not (b && is_msg head.kind && position_of Side.Sent past head == 0) then frame_marks tag head payload else [])) above

  same-requests : whole_requests Side.Received new ≡ whole_requests Side.Received past
  same-requests = ap (λ (ms : List Mark). length (filter ends_msg ms)) (append-nil (marks Side.Received past))

  -- no reply
  asks-placed : is_msg head.kind ≡ true → list_all is_of_reply (marks Side.Sent new) ≡ true → SentPlaced new
  asks-placed msg all =
      let none = no-marks tag head payload msg (all-front is_of_reply (marks Side.Sent past) (frame_marks tag head payload) (subst (λ (ms : List Mark). list_all is_of_reply ms ≡ true) sent-marks all)).1 in
      let same : marks Side.Sent new ≡ marks Side.Sent past = sent-marks ∙ ap (λ (ms : List Mark). marks Side.Sent past ++ ms) none ∙ append-nil (marks Side.Sent past) in
      record {
        placed = subst (Placed 0) (sym same) before.placed;
        ended = ap (after 0) same ∙ before.ended ∙ sym (no-more (is_msg head.kind) msg);
        below = subst (λ (n : ℕ). AllBelow n (marks Side.Sent new)) (sym same-requests) (subst (AllBelow (whole_requests Side.Received past)) (sym same) before.below);
      }
    where
      no-more : (b : Bool) → b ≡ true → (if not b && (not head.more && not (is_ans head.kind)) then replies_ended (frames Side.Sent past) + 1 else replies_ended (frames Side.Sent past)) ≡ replies_ended (frames Side.Sent past)
      no-more true e = refl
      no-more false e = absurd cc

  -- a reply
  reply-sent : is_msg head.kind ≡ false → SentPlaced new
  reply-sent kind = record {
    placed = subst (Placed 0) (sym sent-marks)
        (placed-append 0 (marks Side.Sent past) (frame_marks tag head payload) before.placed
        (octets-placed tag payload (after 0 (marks Side.Sent past)) (if head.more then [] else end tag ∷ []) at-place (last-placed-so head.more)));
    ended = ap (after 0) sent-marks ∙ after-append 0 (marks Side.Sent past) (frame_marks tag head payload)
        ∙ octets-after tag payload (after 0 (marks Side.Sent past)) (if head.more then [] else end tag ∷ [])
        ∙ ap (λ (n : ℕ). after n (if head.more then [] else end tag ∷ [])) before.ended
        ∙ ends-so head.more;
    below = subst (λ (n : ℕ). AllBelow n (marks Side.Sent new)) (sym same-requests) (subst (AllBelow (whole_requests Side.Received past)) (sym sent-marks)
        (below-append (whole_requests Side.Received past) (marks Side.Sent past) (frame_marks tag head payload) before.below
        (octets-below tag payload (whole_requests Side.Received past) (if head.more then [] else end tag ∷ []) has-passed (last-below head.more))));
  }
    where
      replies-it : is_reply head.kind ≡ true
      replies-it = not-msg (is_msg head.kind) kind

      at-place : tag.request ≡ after 0 (marks Side.Sent past)
      at-place = position-is Side.Sent past head keeps under replies-it ∙ sym before.ended

      last-placed-so : (b : Bool) → Placed (after 0 (marks Side.Sent past)) (if b then [] else end tag ∷ [])
      last-placed-so true = tt
      last-placed-so false = (at-place, tt)

      none-where : (b : Bool) (n : ℕ) → n ≡ (if b && false then n + 1 else n)
      none-where true n = refl
      none-where false n = refl

      ends-so : (more : Bool) → after (replies_ended (frames Side.Sent past)) (if more then [] else end tag ∷ [])
          ≡ (if not (is_msg head.kind) && (not more && not (is_ans head.kind)) then replies_ended (frames Side.Sent past) + 1 else replies_ended (frames Side.Sent past))
      ends-so true = none-where (not (is_msg head.kind)) (replies_ended (frames Side.Sent past))
      ends-so false = refl

      oldest-passed : (sound Side.Received past keeps).oldest < whole_requests Side.Received past
      oldest-passed =
          let s = sound Side.Received past keeps in
          let d = s.due head under replies-it in
          let all = counts past keeps are in
          by-open (is_open (under_way Side.Received past) (previous Side.Received past)) s.oldest (length (requests Side.Received past)) (whole_requests Side.Received past)
          (sym (s.whole s.oldest) ∙ d.whole) all
        where
          by-open : (b : Bool) (oldest asked whole : ℕ) → nat_lt (oldest + (if b then 1 else 0)) asked ≡ true → whole + (if b then 1 else 0) ≡ asked → oldest < whole
          by-open true oldest asked whole less all = grind (arith, nat_tests)
          by-open false oldest asked whole less all = grind (arith, nat_tests)

      place-is : tag.request ≡ (sound Side.Received past keeps).oldest
      place-is = rw (kind, ((sound Side.Received past keeps).due head under replies-it).found) ((sound Side.Received past keeps).due head under replies-it).at

      has-passed : tag.request < whole_requests Side.Received past
      has-passed = let less = oldest-passed in let is = place-is in omega (arith, less, is)

      last-below : (b : Bool) → AllBelow (whole_requests Side.Received past) (if b then [] else end tag ∷ [])
      last-below true = tt
      last-below false = (has-passed, tt)

-- what came leaves it
received-placed : (past : List Item) (head : Head) (payload : List ℕ) → (head.channel == 0) ≡ false → SentPlaced past → SentPlaced (passed Side.Received head payload ∷ past)
received-placed past head payload above before =
    let same : marks Side.Sent (passed Side.Received head payload ∷ past) ≡ marks Side.Sent past = append-nil (marks Side.Sent past) in
    let count = passed-count past head payload above in
    record {
      placed = subst (Placed 0) (sym same) before.placed;
      ended = ap (after 0) same ∙ before.ended;
      below = below-more (whole_requests Side.Received past) (whole_requests Side.Received (passed Side.Received head payload ∷ past)) (marks Side.Sent (passed Side.Received head payload ∷ past))
          (omega (arith, count)) (subst (AllBelow (whole_requests Side.Received past)) (sym same) before.below);
    }

-- in each history that keeps the rules, where all that was sent is replies
pub sent-placed : (past : List Item) → KeepsExchangeRules past → IsAbove past → list_all is_of_reply (marks Side.Sent past) ≡ true → SentPlaced past
sent-placed [] keeps above all = record { placed = tt; ended = refl; below = tt }
sent-placed (began by head ∷ past) keeps above all =
    let before = sent-placed past keeps.2 above all in record { placed = before.placed; ended = before.ended; below = before.below }
sent-placed (told by seq ∷ past) keeps above all =
    let before = sent-placed past keeps above all in record { placed = before.placed; ended = before.ended; below = before.below }
sent-placed (passed Side.Received head payload ∷ past) keeps above all =
    received-placed past head payload above.0 (sent-placed past keeps.2 above.1 (subst (λ (ms : List Mark). list_all is_of_reply ms ≡ true) (append-nil (marks Side.Sent past)) all))
sent-placed (passed Side.Sent head payload ∷ past) keeps above all =
    of (is_msg head.kind) refl
    (sent-placed past keeps.2 above.1 (all-front is_of_reply (marks Side.Sent past) (if carries Side.Sent past Side.Sent head then frame_marks (tag_of Side.Sent past head) head payload else []) all).0)
  where
    of : (b : Bool) → is_msg head.kind ≡ b → SentPlaced past → SentPlaced (passed Side.Sent head payload ∷ past)
    of true msg before = asks-placed past head payload keeps.2 keeps.0 above.0 above.1 before msg all
    of false kind before = reply-sent past head payload keeps.2 keeps.0 above.0 above.1 before kind

-- ---- what was sent is of the replies

modulo-kind : (mark : Mark) → is_of_reply (mark_modulo_2_64 mark) ≡ is_of_reply mark
modulo-kind (octet t value) = refl
modulo-kind (end t) = refl

pub modulo-all : (ms : List Mark) → list_all is_of_reply (map mark_modulo_2_64 ms) ≡ list_all is_of_reply ms
modulo-all [] = refl
modulo-all (m ∷ ms) = ap (λ (b : Bool). b && list_all is_of_reply (map mark_modulo_2_64 ms)) (modulo-kind m) ∙ ap (λ (b : Bool). is_of_reply m && b) (modulo-all ms)

-- what agrees modulo 2^64 with a beginning of replies is a beginning of those to the requests that passed
pub sent-front : (plan : PlainPlan) (past : List Item) (many : ℕ) (rest : List Mark) → KeepsExchangeRules past → IsAbove past
    → list_all is_of_reply (replies_marks plan 0 many) ≡ true
    → map mark_modulo_2_64 (marks Side.Sent past) ++ rest ≡ map mark_modulo_2_64 (replies_marks plan 0 many)
    → BeginsWith (replies_marks plan 0 (whole_requests Side.Received past)) (marks Side.Sent past)
sent-front plan past many rest keeps above replied same =
    let all : list_all is_of_reply (map mark_modulo_2_64 (marks Side.Sent past) ++ rest) ≡ true = ap (list_all is_of_reply) same ∙ modulo-all (replies_marks plan 0 many) ∙ replied in
    let mine : list_all is_of_reply (marks Side.Sent past) ≡ true = sym (modulo-all (marks Side.Sent past)) ∙ (all-front is_of_reply (map mark_modulo_2_64 (marks Side.Sent past)) rest all).0 in
    let placed = sent-placed past keeps above mine in
    front-of-replies plan many (whole_requests Side.Received past) (marks Side.Sent past)
    (placed-front 0 (marks Side.Sent past) (replies_marks plan 0 many) rest placed.placed (replies-placed plan 0 many) same) placed.below
