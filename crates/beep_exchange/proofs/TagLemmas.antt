-- The tag of a frame under way, and the octets of its message, by what is kept.
use Rattle.std.proofs.Common.{◌≡◌, ℕ, ◌+◌, ◌-◌, ◌%◌, ◌^◌, ◌<◌, ◌≤◌, ◌==◌, min, nat_lt, Bool, true, false, not, ◌&&◌, if◌then◌else◌, List, [], ◌∷◌, length, Option, Some, None, option_map, refl, sym, ap, ◌∙◌, arith}
use Rattle.std.specs.Option.{option_map_or}
use Rattle.std.proofs.lemmas.Bool.Decides.{nat_tests}
use Rattle.beep_frame.specs.declared.head.Head.{Head}
use Rattle.beep_frame.specs.declared.rule.Rule.{Rule}
use Rattle.beep_frame.specs.declared.tag.Tag.{Tag}
use Rattle.beep_history.specs.declared.journal.Side.{Side}
use Rattle.beep_history.specs.declared.limits.TheConstants.{MAX_MESSAGE}
use Rattle.beep_frame.specs.Frame.{is_msg, is_ans}
use Rattle.beep_history.specs.Journal.{Item, began, passed, told, other}
use Rattle.beep_history.specs.Marks.{frames, previous, goes_on, begins_request, Request, requests, waiting, named, position_of, reply_so_far, unfinished, answer_octets, begun_octets, message_octets, tag_of, modulo_2_64}
use Rattle.beep_history.specs.Broken as broken
use Rattle.beep_history.specs.Broken.{under_way, KeepsShape, KeepsExchangeRules}
use Rattle.beep_history.proofs.AnswersLemmas.{has}
use Rattle.beep_history.proofs.KeptLemmas.{pass}
use Rattle.beep_history.proofs.SoundLemmas.{IsDue, Sound}
use Rattle.beep_history.proofs.PassedLemmas.{sound}
use Rattle.beep_exchange.specs.Kept.{Kept, message_in, breaks_long, position_in, tag_in, tag_under_way}
use Rattle.beep_exchange.specs.Exchange.{Life, IsExchange, current, kept_of}
use Rattle.beep_exchange.proofs.AskerLemmas.{count-waiting}
use Rattle.beep_exchange.proofs.NotedLemmas.{octets-passed}
use Rattle.beep_exchange.proofs.RowsLemmas.{octets-answers, octets-none}
use Rattle.beep_exchange.proofs.JudgedLemmas.{frames-row, ans-reply}

-- ---- a request under way has begun

-- where a frame of a request is under way or passed last, a request has begun
pub record HasAsked (side : Side) (past : List Item) : Type 0 where
  pub under : option_map_or (λ (head : Head). is_msg head.kind) (under_way side past) false ≡ true → 0 < length (requests side past)
  pub last : option_map_or (λ (head : Head). is_msg head.kind) (previous side past) false ≡ true → 0 < length (requests side past)

msg-before : (m p g : Bool) → m ≡ true → (m && not (p && g)) ≡ false → p ≡ true
msg-before true true g e f = refl
msg-before true false g e f = cc
msg-before false p g e f = cc

begun-before : (before : Option Head) (head : Head) → is_msg head.kind ≡ true
    → (is_msg head.kind && not (option_map_or (λ (b : Head). is_msg b.kind && goes_on head b) before false)) ≡ false
    → option_map_or (λ (b : Head). is_msg b.kind) before false ≡ true
begun-before None head m e = (let f = rw m at e in cc)
begun-before (Some b) head m e = msg-before (is_msg head.kind) (is_msg b.kind) (goes_on head b) m e

some-if : {X : Type 0} (b : Bool) (x : X) (xs : List X) → (b ≡ false → 0 < length xs) → 0 < length (if b then x ∷ xs else xs)
some-if true x xs some = omega arith
some-if false x xs some = some refl

pub asked-of : (side : Side) (past : List Item) → KeepsExchangeRules past → HasAsked side past
asked-of side [] u = record { under = λ e. cc; last = λ e. cc }
asked-of Side.Received (began Side.Received head ∷ past) u =
    let h = asked-of Side.Received past u.2 in
    record {
      under = λ m. some-if (begins_request Side.Received past head) _ _ (λ f. h.last (begun-before (previous Side.Received past) head m f));
      last = λ m. some-if (begins_request Side.Received past head) _ _ (λ f. h.last m);
    }
asked-of Side.Sent (began Side.Sent head ∷ past) u =
    let h = asked-of Side.Sent past u.2 in
    record {
      under = λ m. some-if (begins_request Side.Sent past head) _ _ (λ f. h.last (begun-before (previous Side.Sent past) head m f));
      last = λ m. some-if (begins_request Side.Sent past head) _ _ (λ f. h.last m);
    }
asked-of Side.Received (began Side.Sent head ∷ past) u =
    let h = asked-of Side.Received past u.2 in record { under = h.under; last = h.last }
asked-of Side.Sent (began Side.Received head ∷ past) u =
    let h = asked-of Side.Sent past u.2 in record { under = h.under; last = h.last }
asked-of Side.Received (passed Side.Received head payload ∷ past) u =
    let h = asked-of Side.Received past u.2 in
    record {
      under = λ m. cc;
      last = λ m. h.under (ap (λ (o : Option Head). option_map_or (λ (b : Head). is_msg b.kind) o false) u.0 ∙ m);
    }
asked-of Side.Sent (passed Side.Sent head payload ∷ past) u =
    let h = asked-of Side.Sent past u.2 in
    record {
      under = λ m. cc;
      last = λ m. h.under (ap (λ (o : Option Head). option_map_or (λ (b : Head). is_msg b.kind) o false) u.0 ∙ m);
    }
asked-of Side.Received (passed Side.Sent head payload ∷ past) u =
    let h = asked-of Side.Received past u.2 in record { under = h.under; last = h.last }
asked-of Side.Sent (passed Side.Received head payload ∷ past) u =
    let h = asked-of Side.Sent past u.2 in record { under = h.under; last = h.last }
asked-of side (told by seq ∷ past) u =
    let h = asked-of side past u in record { under = h.under; last = h.last }

-- ---- the position of a frame under way

newest-place : (n : ℕ) → 0 < n → (n % 2 ^ 64 + 2 ^ 64 - 1) % 2 ^ 64 ≡ (n - 1) % 2 ^ 64
newest-place n some = omega arith

oldest-place : (n waiting oldest : ℕ) → waiting ≡ n - oldest → oldest ≤ n → n ≤ oldest + 1024
    → (n % 2 ^ 64 + 2 ^ 64 - waiting) % 2 ^ 64 ≡ oldest % 2 ^ 64
oldest-place n waiting oldest e within few = omega arith

module _ (side : Side) (past : List Item) (head : Head) (s : Sound (other side) past) where
  request-place : is_msg head.kind ≡ true → 0 < length (requests side past)
      → position_in (kept_of side past) (kept_of (other side) past) head ≡ position_of side past head % 2 ^ 64
  request-place m some = rw m (newest-place (length (requests side past)) some)

  reply-place : is_msg head.kind ≡ false → IsDue (other side) s.oldest past head
      → position_in (kept_of side past) (kept_of (other side) past) head ≡ position_of side past head % 2 ^ 64
  reply-place m d =
      let place : option_map_or (λ (r : Request). r.position) (named side past head) 0 ≡ s.oldest =
      ap (λ (o : Option Request). option_map_or (λ (r : Request). r.position) o 0) d.found ∙ d.at in
      rw (m, place) (oldest-place (length (requests (other side) past)) (length (waiting (other side) past)) s.oldest
      (count-waiting (other side) past s) s.within s.few)

  place-by : (b : Bool) → is_msg head.kind ≡ b → (b ≡ true → 0 < length (requests side past)) → (b ≡ false → IsDue (other side) s.oldest past head)
      → position_in (kept_of side past) (kept_of (other side) past) head ≡ position_of side past head % 2 ^ 64
  place-by true m some due = request-place m (some refl)
  place-by false m some due = reply-place m (due refl)

  tag-by : position_in (kept_of side past) (kept_of (other side) past) head ≡ position_of side past head % 2 ^ 64
      → tag_in (kept_of side past) (kept_of (other side) past) head ≡ modulo_2_64 (tag_of side past head)
  tag-by e = ap (λ (n : ℕ). record { kind = head.kind; request = n; ansno = head.ansno }) e

under-msg : (side : Side) (past : List Item) (head : Head) → KeepsExchangeRules past → under_way side past ≡ Some head → is_msg head.kind ≡ true
    → 0 < length (requests side past)
under-msg side past head u under m =
    (asked-of side past u).under (ap (λ (o : Option Head). option_map_or (λ (b : Head). is_msg b.kind) o false) under ∙ m)

-- the tag of the frame under way is what its octets are marked with, modulo 2^64
pub tag-is : (side : Side) (past : List Item) (head : Head) → KeepsExchangeRules past → under_way side past ≡ Some head
    → tag_in (kept_of side past) (kept_of (other side) past) head ≡ modulo_2_64 (tag_of side past head)
tag-is Side.Received past head u under =
    let s = sound Side.Sent past u in
    tag-by Side.Received past head s
    (place-by Side.Received past head s (is_msg head.kind) refl (under-msg Side.Received past head u under) (λ m. s.due head under (ap not m)))
tag-is Side.Sent past head u under =
    let s = sound Side.Received past u in
    tag-by Side.Sent past head s
    (place-by Side.Sent past head s (is_msg head.kind) refl (under-msg Side.Sent past head u under) (λ m. s.due head under (ap not m)))

-- ---- the octets of a message

-- a reply that keeps the rules on messages names the oldest request that waits
pub record NamesOldest (side : Side) (past : List Item) (head : Head) : Type 0 where
  pub asked : broken.breaks_never_asked side past head ≡ false
  pub fresh : broken.breaks_already_answered side past head ≡ false
  pub turn : broken.breaks_out_of_turn side past head ≡ false

shape-names : (side : Side) (past : List Item) (head : Head) → KeepsShape side past head → NamesOldest side past head
shape-names side past head e =
    let a = pass Rule.NulShape (broken.breaks_nul_shape head) _ e in
    let b = pass Rule.NotContinued (broken.breaks_not_continued side past head) _ a.1 in
    let c = pass Rule.KindChanged (broken.breaks_kind_changed side past head) _ b.1 in
    let d = pass Rule.NumberInUse (broken.breaks_number_in_use side past head) _ c.1 in
    let f = pass Rule.NeverAsked (broken.breaks_never_asked side past head) _ d.1 in
    let g = pass Rule.EarlyReply (broken.breaks_early_reply side past head) _ f.1 in
    let h = pass Rule.AlreadyAnswered (broken.breaks_already_answered side past head) _ g.1 in
    let i = pass Rule.OutOfTurn (broken.breaks_out_of_turn side past head) _ h.1 in
    record { asked = f.0; fresh = h.0; turn = i.0 }

capped : (octets : ℕ) → nat_lt MAX_MESSAGE (min octets (2 ^ 32 - 1)) ≡ nat_lt MAX_MESSAGE octets
capped octets = grind (arith, nat_tests)

answer-capped : (size octets : ℕ) (had : Bool) → (had ≡ false → octets ≡ 0)
    → nat_lt MAX_MESSAGE (min ((if had then min octets (2 ^ 32 - 1) else 0) + size) (2 ^ 32 - 1)) ≡ nat_lt MAX_MESSAGE (size + octets)
answer-capped size octets true none = capped-twice size octets
  where
    capped-twice : (a b : ℕ) → nat_lt MAX_MESSAGE (min (min b (2 ^ 32 - 1) + a) (2 ^ 32 - 1)) ≡ nat_lt MAX_MESSAGE (a + b)
    capped-twice a b = grind (arith, nat_tests)
answer-capped size octets false none = let e = none refl in capped-none size octets e
  where
    capped-none : (a b : ℕ) → b ≡ 0 → nat_lt MAX_MESSAGE (min (0 + a) (2 ^ 32 - 1)) ≡ nat_lt MAX_MESSAGE (a + b)
    capped-none a b e = grind (arith, nat_tests)

module _ (side : Side) (past : List Item) (head : Head) (s : Sound (other side) past) (n : NamesOldest side past head) where
  answer-long : is_ans head.kind ≡ true
      → nat_lt MAX_MESSAGE (message_in (kept_of side past) (kept_of (other side) past) head) ≡ nat_lt MAX_MESSAGE (message_octets side past head)
  answer-long a =
      let row : reply_so_far side past head ≡ current (other side) past = frames-row side past head s (ans-reply head.kind a) n.asked n.fresh n.turn in
      rw (a, octets-answers (current (other side) past) head.ansno (unfinished (current (other side) past)), row)
      (answer-capped head.size (answer_octets head.ansno (current (other side) past)) (has head.ansno (unfinished (current (other side) past)))
      (octets-none head.ansno (current (other side) past)))

  message-long : is_ans head.kind ≡ false
      → nat_lt MAX_MESSAGE (message_in (kept_of side past) (kept_of (other side) past) head) ≡ nat_lt MAX_MESSAGE (message_octets side past head)
  message-long a =
      rw a (ap (nat_lt MAX_MESSAGE) (sym (octets-passed head (frames side past) (2 ^ 32 - 1)))
      ∙ capped (head.size + begun_octets head (frames side past)))

  long-by : (b : Bool) → is_ans head.kind ≡ b
      → nat_lt MAX_MESSAGE (message_in (kept_of side past) (kept_of (other side) past) head) ≡ nat_lt MAX_MESSAGE (message_octets side past head)
  long-by true a = answer-long a
  long-by false a = message-long a

-- a message is too long by what is kept where it is over the history
pub long-is : (side : Side) (past : List Item) (head : Head) → KeepsExchangeRules past → KeepsShape side past head
    → breaks_long (kept_of side past) (kept_of (other side) past) head ≡ broken.breaks_long side past head
long-is side past head u e =
    ap (λ (b : Bool). not (head.channel == 0) && b)
    (long-by side past head (sound (other side) past u) (shape-names side past head e) (is_ans head.kind) refl)

-- ---- the calls, by the parts of the exchange

module _ (life : Life) (past : List Item) (st : IsExchange life past) where
  pub tag-received : (head : Head) → life.received.under_way ≡ Some head
      → tag_under_way life.received life.sent ≡ Some (modulo_2_64 (tag_of Side.Received past head))
  tag-received head begun =
      let under : under_way Side.Received past ≡ Some head = ap (λ (k : Kept). k.under_way) (sym st.received) ∙ begun in
      ap (λ (o : Option Head). option_map (tag_in life.received life.sent) o) begun
      ∙ ap (λ (t : Tag). Some t) (rw (st.received, st.sent) (tag-is Side.Received past head st.unbroken under))

  pub tag-sent : (head : Head) → life.sent.under_way ≡ Some head
      → tag_under_way life.sent life.received ≡ Some (modulo_2_64 (tag_of Side.Sent past head))
  tag-sent head begun =
      let under : under_way Side.Sent past ≡ Some head = ap (λ (k : Kept). k.under_way) (sym st.sent) ∙ begun in
      ap (λ (o : Option Head). option_map (tag_in life.sent life.received) o) begun
      ∙ ap (λ (t : Tag). Some t) (rw (st.received, st.sent) (tag-is Side.Sent past head st.unbroken under))

  pub long-received : (head : Head) → KeepsShape Side.Received past head
      → breaks_long life.received life.sent head ≡ broken.breaks_long Side.Received past head
  long-received head e = rw (st.received, st.sent) (long-is Side.Received past head st.unbroken e)

  pub long-sent : (head : Head) → KeepsShape Side.Sent past head
      → breaks_long life.sent life.received head ≡ broken.breaks_long Side.Sent past head
  long-sent head e = rw (st.received, st.sent) (long-is Side.Sent past head st.unbroken e)
