-- What is said in a live life that began with the profile is replies.
use Rattle.std.proofs.Common.{◌≡◌, ℕ, zero, suc, ◌+◌, ◌<◌, ◌≤◌, ◌==◌, nat_lt, Bool, true, false, not, ◌&&◌, ◌||◌, if◌then◌else◌, List, [], ◌∷◌, ◌++◌, refl, sym, ap, ◌∙◌, subst, arith}
use Rattle.std.proofs.Math.Numerals.{add-one}
use Rattle.std.proofs.lemmas.Bool.{ltb-true, lt-ltb}
use Rattle.std.proofs.lemmas.List.{append_assoc, append-nil}
use Rattle.beep_script.specs.beep_frame.specs.declared.head.Head.{Head}
use Rattle.beep_script.specs.beep_frame.specs.Frame.{is_msg}
use Rattle.beep_script.specs.beep_history.specs.declared.journal.Side.{Side}
use Rattle.beep_script.specs.beep_history.specs.Journal.{Item, began, passed, told}
use Rattle.beep_script.specs.beep_history.specs.Marks.{position_of}
use Rattle.beep_script.specs.beep_history.specs.Broken.{KeepsExchangeRules}
use Rattle.beep_script.specs.beep_history.specs.Messages.{Message}
use Rattle.beep_script.specs.beep_mgmt.specs.Message.{message_said}
use Rattle.beep_script.specs.beep_journal.specs.Lives.{Event, close_came, start_granted, close_granted, lives, has_ended, life_named, is_live}
use Rattle.beep_script.specs.beep_journal.specs.Zero.{channel_of, zero_history, gathered, zero_events, effect, events}
use Rattle.beep_script.specs.beep_journal.specs.Life.{life_now, life_under_way, is_of_life, life}
use Rattle.beep_script.specs.beep_journal.specs.Laws.{IsLiveLife}
use Rattle.beep_script.specs.beep_journal.proofs.LifeLemmas.{nothing-before}
use Rattle.beep_script.specs.beep_journal.proofs.LivesLemmas.{live-is-last}
use Rattle.beep_script.specs.beep_journal.proofs.MomentLemmas.{same-number, equal-number, apart-less, apart-zero}
use Rattle.beep_script.specs.beep_talk.specs.Plan.{PlainPlan}
use Rattle.beep_script.specs.beep_talk.specs.Talk.{says_profile, chooses, begins_with, has_profile, reply_of, asked_first, ends_request, replied, talk}
use Rattle.beep_replies.specs.Replies.{whole_requests, requests_passed, replies, first_said}
use Rattle.beep_replies.proofs.CountLemmas.{IsAbove, keeps-where, passed-count, sent-count, position-is}

-- ---- tests

left-true : (a b : Bool) → (a && b) ≡ true → a ≡ true
left-true true b e = refl
left-true false b e = absurd cc

right-true : (a b : Bool) → (a && b) ≡ true → b ≡ true
right-true true b e = e
right-true false b e = absurd cc

left-false : (a b : Bool) → (a || b) ≡ false → a ≡ false
left-false true b e = absurd cc
left-false false b e = refl

right-false : (a b : Bool) → (a || b) ≡ false → b ≡ false
right-false true b e = absurd cc
right-false false b e = e

-- ---- lives grow, and what ended has ended

if-more : (b : Bool) (n : ℕ) → n ≤ (if b then n + 1 else n)
if-more true n = omega arith
if-more false n = omega arith

more-lives : (n : ℕ) (newer es : List Event) → lives n es ≤ lives n (newer ++ es)
more-lives n [] es = omega arith
more-lives n (close_came side position of ∷ newer) es = more-lives n newer es
more-lives n (close_granted side position of ∷ newer) es = more-lives n newer es
more-lives n (start_granted of ∷ newer) es =
    omega (arith, more-lives n newer es, if-more (of == n && not (nat_lt 0 (lives n (newer ++ es)) && not (has_ended n (lives n (newer ++ es)) (newer ++ es)))) (lives n (newer ++ es)))

still-going : (n k : ℕ) (newer es : List Event) → has_ended n k (newer ++ es) ≡ false → has_ended n k es ≡ false
still-going n k [] es e = e
still-going n k (close_came side position of ∷ newer) es e = still-going n k newer es e
still-going n k (start_granted of ∷ newer) es e = still-going n k newer es e
still-going n k (close_granted side position of ∷ newer) es e =
    still-going n k newer es (right-false (of == n && life_named n side position (newer ++ es) == k) (has_ended n k (newer ++ es)) e)

-- the moments that an item adds
newer-than : (item : Item) (past : List Item) → (newer : List Event) × (zero_events (item ∷ past) ≡ newer ++ zero_events past)
newer-than (began by head) past = ([], refl)
newer-than (passed by head payload) past = (effect by head payload past, refl)
newer-than (told by seq) past = ([], refl)

newer-where : (b : Bool) (item : Item) (past : List Item) → (newer : List Event) × (zero_events (if b then item ∷ past else past) ≡ newer ++ zero_events past)
newer-where true item past = newer-than item past
newer-where false item past = ([], refl)

newer-events : (item : Item) (journal : List Item) → (newer : List Event) × (events (item ∷ journal) ≡ newer ++ events journal)
newer-events item journal = newer-where (channel_of item == 0) item (zero_history journal)

pub lives-grow : (n : ℕ) (item : Item) (journal : List Item) → lives n (events journal) ≤ lives n (events (item ∷ journal))
lives-grow n item journal =
    let newer = newer-events item journal in
    subst (λ (es : List Event). lives n (events journal) ≤ lives n es) (sym newer.1) (more-lives n newer.0 (events journal))

pub goes-before : (n k : ℕ) (item : Item) (journal : List Item) → has_ended n k (events (item ∷ journal)) ≡ false → has_ended n k (events journal) ≡ false
goes-before n k item journal e =
    let newer = newer-events item journal in
    still-going n k newer.0 (events journal) (subst (λ (es : List Event). has_ended n k es ≡ false) newer.1 e)

live-within : (n : ℕ) (es : List Event) (b : Bool) → (if b then lives n es else 0) ≤ lives n es
live-within n es true = omega arith
live-within n es false = omega arith

now-within : (n : ℕ) (journal : List Item) → life_now n journal ≤ lives n (events journal)
now-within n journal = live-within n (events journal) (is_live n (events journal))

-- the live life is the one of now
pub now-is : (n k : ℕ) (journal : List Item) → IsLiveLife n k (events journal) → life_now n journal ≡ k
now-is n k journal live =
    let last = live-is-last n k (events journal) live in
    let some : nat_lt 0 (lives n (events journal)) ≡ true = subst (λ (m : ℕ). nat_lt 0 m ≡ true) last (lt-ltb 0 k live.first) in
    let goes : has_ended n (lives n (events journal)) (events journal) ≡ false = subst (λ (m : ℕ). has_ended n m (events journal) ≡ false) last live.goes_on in
    ap (λ (b : Bool). if b && not (has_ended n (lives n (events journal)) (events journal)) then lives n (events journal) else 0) some
    ∙ ap (λ (b : Bool). if not b then lives n (events journal) else 0) goes
    ∙ sym last

-- ---- nothing is said before a life begins

begins-parts : (uri : List ℕ) (n k : ℕ) (item : Item) (journal : List Item) → begins_with uri n k item journal ≡ true
    → (chooses uri item journal ≡ true) × ((lives n (events journal) + 1 == k) ≡ true) × (nat_lt (lives n (events journal)) (lives n (events (item ∷ journal))) ≡ true)
begins-parts uri n k item journal is =
    let rest = right-true (chooses uri item journal) _ is in
    (left-true (chooses uri item journal) _ is, left-true (lives n (events journal) + 1 == k) _ rest, right-true (lives n (events journal) + 1 == k) _ rest)

not-begun : (uri : List ℕ) (n k : ℕ) (item : Item) (journal : List Item) → lives n (events (item ∷ journal)) < k → begins_with uri n k item journal ≡ false
not-begun uri n k item journal below = of (begins_with uri n k item journal) refl
  where
    of : (b : Bool) → begins_with uri n k item journal ≡ b → b ≡ false
    of false is = refl
    of true is =
        let parts = begins-parts uri n k item journal is in
        let at = equal-number (lives n (events journal) + 1) k parts.1 in
        let more = ltb-true (lives n (events journal)) (lives n (events (item ∷ journal))) parts.2 in
        absurd (omega (arith, at, more, below))

four-false : (a b c d e f : Bool) → e ≡ false → ((a && b && c && d && e) && f) ≡ false
four-false true true true true e f is = rw is refl
four-false false b c d e f is = refl
four-false true false c d e f is = refl
four-false true true false d e f is = refl
four-false true true true false e f is = refl

-- an item of another time calls for no reply
no-reply : (plan : PlainPlan) (n k : ℕ) (item : Item) (journal : List Item) → (life_now n journal == k) ≡ false → replied plan n k item journal ≡ []
no-reply plan n k (began by head) journal apart = refl
no-reply plan n k (passed Side.Sent head payload) journal apart = refl
no-reply plan n k (told by seq) journal apart = refl
no-reply plan n k (passed Side.Received head payload) journal apart =
    ap (λ (b : Bool). if b then reply_of plan.command plan.lines (position_of Side.Received (life n k journal) head) else [])
    (four-false (is_msg head.kind) (not head.more) (head.channel == n) (life_under_way n Side.Received journal == k) (life_now n journal == k) (has_profile plan.raw_uri n k journal) apart)

pub nothing-said : (plan : PlainPlan) (n k : ℕ) (journal : List Item) → lives n (events journal) < k → talk plan n k journal ≡ []
nothing-said plan n k [] below = refl
nothing-said plan n k (item ∷ journal) below =
    let earlier : lives n (events journal) < k = let more = lives-grow n item journal in omega (arith, more, below) in
    let now : (life_now n journal == k) ≡ false = apart-less (life_now n journal) k (let within = now-within n journal in omega (arith, within, earlier)) in
    ap (λ (b : Bool). talk plan n k journal ++ ((if b then asked_first plan.command (events journal) else []) ++ replied plan n k item journal)) (not-begun plan.raw_uri n k item journal below)
    ∙ ap (λ (xs : List Message). talk plan n k journal ++ xs) (no-reply plan n k item journal now)
    ∙ append-nil (talk plan n k journal) ∙ nothing-said plan n k journal earlier

first-none : (plan : PlainPlan) (n k : ℕ) (journal : List Item) → lives n (events journal) < k → first_said plan n k journal ≡ []
first-none plan n k [] below = refl
first-none plan n k (item ∷ journal) below =
    let earlier : lives n (events journal) < k = let more = lives-grow n item journal in omega (arith, more, below) in
    ap (λ (b : Bool). first_said plan n k journal ++ (if b then asked_first plan.command (events journal) else [])) (not-begun plan.raw_uri n k item journal below)
    ∙ append-nil (first_said plan n k journal) ∙ first-none plan n k journal earlier

-- ---- nothing is said in a life without the profile

and-none : (a b : Bool) → b ≡ false → (a && b) ≡ false
and-none true b e = e
and-none false b e = refl

no-profile-reply : (plan : PlainPlan) (n k : ℕ) (item : Item) (journal : List Item) → has_profile plan.raw_uri n k journal ≡ false → replied plan n k item journal ≡ []
no-profile-reply plan n k (began by head) journal none = refl
no-profile-reply plan n k (passed Side.Sent head payload) journal none = refl
no-profile-reply plan n k (told by seq) journal none = refl
no-profile-reply plan n k (passed Side.Received head payload) journal none =
    ap (λ (b : Bool). if b then reply_of plan.command plan.lines (position_of Side.Received (life n k journal) head) else [])
    (and-none (ends_request n k head journal) (has_profile plan.raw_uri n k journal) none)

pub other-profile : (plan : PlainPlan) (n k : ℕ) (journal : List Item) → has_profile plan.raw_uri n k journal ≡ false → talk plan n k journal ≡ []
other-profile plan n k [] none = refl
other-profile plan n k (item ∷ journal) none =
    let here = left-false (begins_with plan.raw_uri n k item journal) (has_profile plan.raw_uri n k journal) none in
    let before = right-false (begins_with plan.raw_uri n k item journal) (has_profile plan.raw_uri n k journal) none in
    ap (λ (b : Bool). talk plan n k journal ++ ((if b then asked_first plan.command (events journal) else []) ++ replied plan n k item journal)) here
    ∙ ap (λ (xs : List Message). talk plan n k journal ++ xs) (no-profile-reply plan n k item journal before)
    ∙ append-nil (talk plan n k journal) ∙ other-profile plan n k journal before

-- ---- replies

pub next-reply : (plan : PlainPlan) (position count : ℕ) → replies plan position (count + 1) ≡ replies plan position count ++ reply_of plan.command plan.lines (position + count)
next-reply plan position count = ap (replies plan position) (add-one count) ∙ of position count
  where
    of : (position count : ℕ) → replies plan position (suc count) ≡ replies plan position count ++ reply_of plan.command plan.lines (position + count)
    of position zero =
        append-nil (reply_of plan.command plan.lines position)
        ∙ ap (reply_of plan.command plan.lines) (let e : position ≡ position + 0 = omega arith in e)
    of position (suc count) =
        ap (λ (xs : List Message). reply_of plan.command plan.lines position ++ xs) (of (position + 1) count)
        ∙ sym (append_assoc (reply_of plan.command plan.lines position) (replies plan (position + 1) count) (reply_of plan.command plan.lines ((position + 1) + count)))
        ∙ ap (λ (p : ℕ). replies plan position (suc count) ++ reply_of plan.command plan.lines p) (let e : (position + 1) + count ≡ position + suc count = omega arith in e)

-- ---- the frames of a life

-- they are of its number
pub life-above : (n k : ℕ) (journal : List Item) → (n == 0) ≡ false → IsAbove (life n k journal)
life-above n k [] above = tt
life-above n k (item ∷ journal) above = of (is_of_life n k item journal) refl (life-above n k journal above)
  where
    here : (item : Item) → is_of_life n k item journal ≡ true → IsAbove (life n k journal) → IsAbove (item ∷ life n k journal)
    here (began by head) is rest = rest
    here (told by seq) is rest = rest
    here (passed by head payload) is rest =
        (subst (λ (c : ℕ). (c == 0) ≡ false) (sym (equal-number head.channel n (left-true (head.channel == n) (life_under_way n by journal == k) is))) above, rest)

    of : (b : Bool) → is_of_life n k item journal ≡ b → IsAbove (life n k journal) → IsAbove (if b then item ∷ life n k journal else life n k journal)
    of true is rest = here item is rest
    of false is rest = rest

-- ---- item by item

abbrev pub Said : PlainPlan → ℕ → ℕ → List Item → Type 0
Said plan n k journal = talk plan n k journal ≡ first_said plan n k journal ++ replies plan 0 (requests_passed n k journal)

module _ (plan : PlainPlan) (n k : ℕ) (item : Item) (journal : List Item) where
  -- the life begins
  begins-said : (n == 0) ≡ false → begins_with plan.raw_uri n k item journal ≡ true → Said plan n k (item ∷ journal)
  begins-said above is =
      let parts = begins-parts plan.raw_uri n k item journal is in
      let at = equal-number (lives n (events journal) + 1) k parts.1 in
      let below : lives n (events journal) < k = omega (arith, at) in
      let at_zero = of-zero item parts.0 in
      let past : life n k (item ∷ journal) ≡ [] = ap (λ (b : Bool). if b then item ∷ life n k journal else life n k journal) (not-of item at_zero) ∙ nothing-before n k journal below in
      let passed-none : requests_passed n k (item ∷ journal) ≡ 0 = ap (whole_requests Side.Received) past in
      let asked : List Message = (if begins_with plan.raw_uri n k item journal then asked_first plan.command (events journal) else []) in
      ap (λ (xs : List Message). xs ++ (asked ++ replied plan n k item journal)) (nothing-said plan n k journal below)
      ∙ ap (λ (xs : List Message). asked ++ xs) (quiet item at_zero)
      ∙ ap (λ (xs : List Message). (xs ++ asked) ++ []) (sym (first-none plan n k journal below))
      ∙ ap (λ (m : ℕ). (first_said plan n k journal ++ asked) ++ replies plan 0 m) (sym passed-none)
    where
      of-zero : (item : Item) → chooses plan.raw_uri item journal ≡ true → (channel_of item == 0) ≡ true
      of-zero (began by head) is = absurd cc
      of-zero (told by seq) is = absurd cc
      of-zero (passed by head payload) is =
          left-true (head.channel == 0) (not head.more)
          (left-true (head.channel == 0 && not head.more) (says_profile plan.raw_uri (message_said (gathered by (zero_history journal) ++ payload))) is)

      not-of : (item : Item) → (channel_of item == 0) ≡ true → is_of_life n k item journal ≡ false
      not-of (began by head) at_zero = ap (λ (b : Bool). b && life_now n journal == k) (apart-zero head.channel n at_zero above)
      not-of (told by seq) at_zero = ap (λ (b : Bool). b && life_now n journal == k) (apart-zero seq.channel n at_zero above)
      not-of (passed by head payload) at_zero = ap (λ (b : Bool). b && life_under_way n by journal == k) (apart-zero head.channel n at_zero above)

      three-false : (a b c d e f : Bool) → c ≡ false → ((a && b && c && d && e) && f) ≡ false
      three-false true true c d e f is = rw is refl
      three-false false b c d e f is = refl
      three-false true false c d e f is = refl

      quiet : (item : Item) → (channel_of item == 0) ≡ true → replied plan n k item journal ≡ []
      quiet (began by head) at_zero = refl
      quiet (told by seq) at_zero = refl
      quiet (passed Side.Sent head payload) at_zero = refl
      quiet (passed Side.Received head payload) at_zero =
          ap (λ (b : Bool). if b then reply_of plan.command plan.lines (position_of Side.Received (life n k journal) head) else [])
          (three-false (is_msg head.kind) (not head.more) (head.channel == n) (life_under_way n Side.Received journal == k) (life_now n journal == k) (has_profile plan.raw_uri n k journal)
          (apart-zero head.channel n at_zero above))

  -- an item that calls for nothing
  quiet-said : begins_with plan.raw_uri n k item journal ≡ false → replied plan n k item journal ≡ [] → requests_passed n k (item ∷ journal) ≡ requests_passed n k journal
      → Said plan n k journal → Said plan n k (item ∷ journal)
  quiet-said no-begin none same before =
      ap (λ (b : Bool). talk plan n k journal ++ ((if b then asked_first plan.command (events journal) else []) ++ replied plan n k item journal)) no-begin
      ∙ ap (λ (xs : List Message). talk plan n k journal ++ xs) none
      ∙ append-nil (talk plan n k journal) ∙ before
      ∙ ap (λ (xs : List Message). xs ++ replies plan 0 (requests_passed n k journal)) (sym (append-nil (first_said plan n k journal)))
      ∙ ap (λ (b : Bool). (first_said plan n k journal ++ (if b then asked_first plan.command (events journal) else [])) ++ replies plan 0 (requests_passed n k journal)) (sym no-begin)
      ∙ ap (λ (m : ℕ). first_said plan n k (item ∷ journal) ++ replies plan 0 m) (sym same)

  -- an item that calls for the next reply
  reply-said : begins_with plan.raw_uri n k item journal ≡ false → (position : ℕ) → replied plan n k item journal ≡ reply_of plan.command plan.lines position
      → position ≡ requests_passed n k journal → requests_passed n k (item ∷ journal) ≡ requests_passed n k journal + 1 → Said plan n k journal → Said plan n k (item ∷ journal)
  reply-said no-begin position some at one before =
      let count = requests_passed n k journal in
      ap (λ (b : Bool). talk plan n k journal ++ ((if b then asked_first plan.command (events journal) else []) ++ replied plan n k item journal)) no-begin
      ∙ ap (λ (xs : List Message). talk plan n k journal ++ xs) (some ∙ ap (reply_of plan.command plan.lines) at)
      ∙ ap (λ (xs : List Message). xs ++ reply_of plan.command plan.lines count) before
      ∙ append_assoc (first_said plan n k journal) (replies plan 0 count) (reply_of plan.command plan.lines count)
      ∙ ap (λ (xs : List Message). first_said plan n k journal ++ xs)
      (ap (λ (p : ℕ). replies plan 0 count ++ reply_of plan.command plan.lines p) (let e : count ≡ 0 + count = omega arith in e) ∙ sym (next-reply plan 0 count))
      ∙ ap (λ (xs : List Message). xs ++ replies plan 0 (count + 1)) (sym (append-nil (first_said plan n k journal)))
      ∙ ap (λ (b : Bool). (first_said plan n k journal ++ (if b then asked_first plan.command (events journal) else [])) ++ replies plan 0 (count + 1)) (sym no-begin)
      ∙ ap (λ (m : ℕ). first_said plan n k (item ∷ journal) ++ replies plan 0 m) (sym one)

-- what an item other than a received frame adds to the count
same-count : (n k : ℕ) (item : Item) (journal : List Item) → whole_requests Side.Received (item ∷ life n k journal) ≡ whole_requests Side.Received (life n k journal)
    → requests_passed n k (item ∷ journal) ≡ requests_passed n k journal
same-count n k item journal same = of (is_of_life n k item journal)
  where
    of : (b : Bool) → whole_requests Side.Received (if b then item ∷ life n k journal else life n k journal) ≡ whole_requests Side.Received (life n k journal)
    of true = same
    of false = refl

-- a received frame
module _ (plan : PlainPlan) (n k : ℕ) (above : (n == 0) ≡ false) (head : Head) (payload : List ℕ) (journal : List Item) (now : life_now n journal ≡ k)
    (profile : has_profile plan.raw_uri n k journal ≡ true) (no-begin : begins_with plan.raw_uri n k (passed Side.Received head payload) journal ≡ false) where
  abbrev item : Item
  item = passed Side.Received head payload

  abbrev past : List Item
  past = life n k journal

  none-of : (b : Bool) → (ends_request n k head journal && has_profile plan.raw_uri n k journal) ≡ b → b ≡ false → replied plan n k item journal ≡ []
  none-of b is none = ap (λ (c : Bool). if c then reply_of plan.command plan.lines (position_of Side.Received past head) else []) (is ∙ none)

  to-test : (a : Bool) → ends_request n k head journal ≡ a → (ends_request n k head journal && has_profile plan.raw_uri n k journal) ≡ a
  to-test a is = ap (λ (b : Bool). ends_request n k head journal && b) profile ∙ and-true (ends_request n k head journal) ∙ is
    where
      and-true : (b : Bool) → (b && true) ≡ b
      and-true true = refl
      and-true false = refl

  -- of another life
  apart-said : is_of_life n k item journal ≡ false → Said plan n k journal → Said plan n k (item ∷ journal)
  apart-said other before =
      quiet-said plan n k item journal no-begin
      (none-of false (to-test false (two-false (is_msg head.kind) (not head.more) (head.channel == n) (life_under_way n Side.Received journal == k) (life_now n journal == k) other)) refl)
      (ap (λ (b : Bool). whole_requests Side.Received (if b then item ∷ past else past)) other) before
    where
      two-false : (a b c d e : Bool) → (c && d) ≡ false → (a && b && c && d && e) ≡ false
      two-false true true true true e is = absurd cc
      two-false true true true false e is = refl
      two-false true true false d e is = refl
      two-false false b c d e is = refl
      two-false true false c d e is = refl

  -- of this life
  here-said : is_of_life n k item journal ≡ true → KeepsExchangeRules (item ∷ past) → Said plan n k journal → Said plan n k (item ∷ journal)
  here-said is keeps before = of (is_msg head.kind && not head.more) refl
    where
      counted : requests_passed n k (item ∷ journal) ≡ requests_passed n k journal + (if is_msg head.kind && not head.more then 1 else 0)
      counted =
          ap (λ (b : Bool). whole_requests Side.Received (if b then item ∷ past else past)) is
          ∙ passed-count past head payload (subst (λ (c : ℕ). (c == 0) ≡ false) (sym (equal-number head.channel n (left-true (head.channel == n) (life_under_way n Side.Received journal == k) is))) above)

      now-true : (life_now n journal == k) ≡ true
      now-true = subst (λ (m : ℕ). (m == k) ≡ true) (sym now) (same-number k)

      shape : (a b c d e : Bool) → (c && d) ≡ true → e ≡ true → (a && b && c && d && e) ≡ (a && b)
      shape true true true true true is last = refl
      shape true true true true false is last = absurd cc
      shape a b true false e is last = absurd cc
      shape a b false d e is last = absurd cc
      shape true false true true e is last = refl
      shape false b true true e is last = refl

      ends-is : ends_request n k head journal ≡ (is_msg head.kind && not head.more)
      ends-is = shape (is_msg head.kind) (not head.more) (head.channel == n) (life_under_way n Side.Received journal == k) (life_now n journal == k) is now-true

      of : (b : Bool) → (is_msg head.kind && not head.more) ≡ b → Said plan n k (item ∷ journal)
      of false last =
          quiet-said plan n k item journal no-begin (none-of false (to-test false (ends-is ∙ last)) refl)
          (counted ∙ ap (λ (b : Bool). requests_passed n k journal + (if b then 1 else 0)) last ∙ (let e : requests_passed n k journal + 0 ≡ requests_passed n k journal = omega arith in e)) before
      of true last =
          reply-said plan n k item journal no-begin (position_of Side.Received past head)
          (ap (λ (c : Bool). if c then reply_of plan.command plan.lines (position_of Side.Received past head) else []) (to-test true (ends-is ∙ last)))
          (position-is past head keeps.2 (life-above n k journal above) keeps.0 (left-true (is_msg head.kind) (not head.more) last))
          (counted ∙ ap (λ (b : Bool). requests_passed n k journal + (if b then 1 else 0)) last) before

  received-said : KeepsExchangeRules (life n k (item ∷ journal)) → Said plan n k journal → Said plan n k (item ∷ journal)
  received-said keeps before = of (is_of_life n k item journal) refl
    where
      of : (b : Bool) → is_of_life n k item journal ≡ b → Said plan n k (item ∷ journal)
      of true is = here-said is (subst (λ (b : Bool). KeepsExchangeRules (if b then item ∷ past else past)) is keeps) before
      of false is = apart-said is before

-- a life that began with the profile has begun
pub profile-begun : (uri : List ℕ) (n k : ℕ) (journal : List Item) → has_profile uri n k journal ≡ true → k ≤ lives n (events journal)
profile-begun uri n k [] is = absurd cc
profile-begun uri n k (item ∷ journal) is = of (begins_with uri n k item journal) refl (profile-begun uri n k journal) is
  where
    of : (b : Bool) → begins_with uri n k item journal ≡ b → (has_profile uri n k journal ≡ true → k ≤ lives n (events journal))
        → (b || has_profile uri n k journal) ≡ true → k ≤ lives n (events (item ∷ journal))
    of true begins earlier rest =
        let parts = begins-parts uri n k item journal begins in
        let at = equal-number (lives n (events journal) + 1) k parts.1 in
        let more = ltb-true (lives n (events journal)) (lives n (events (item ∷ journal))) parts.2 in
        omega (arith, at, more)
    of false begins earlier rest =
        let before = earlier rest in
        let more = lives-grow n item journal in
        omega (arith, before, more)

-- what is said in a life that goes on
pub said-on : (plan : PlainPlan) (n k : ℕ) (journal : List Item) → (n == 0) ≡ false → 0 < k → KeepsExchangeRules (life n k journal)
    → has_ended n k (events journal) ≡ false → has_profile plan.raw_uri n k journal ≡ true → Said plan n k journal
said-on plan n k [] above first keeps goes profile = absurd cc
said-on plan n k (item ∷ journal) above first keeps goes profile =
    of (begins_with plan.raw_uri n k item journal) refl profile
    (said-on plan n k journal above first (keeps-where (is_of_life n k item journal) item (life n k journal) keeps) (goes-before n k item journal goes))
  where
    by-item : (item : Item) → KeepsExchangeRules (life n k (item ∷ journal)) → begins_with plan.raw_uri n k item journal ≡ false → life_now n journal ≡ k
        → has_profile plan.raw_uri n k journal ≡ true → Said plan n k journal → Said plan n k (item ∷ journal)
    by-item (began by head) keeps no-begin now had before = quiet-said plan n k (began by head) journal no-begin refl (same-count n k (began by head) journal refl) before
    by-item (told by seq) keeps no-begin now had before = quiet-said plan n k (told by seq) journal no-begin refl (same-count n k (told by seq) journal refl) before
    by-item (passed Side.Sent head payload) keeps no-begin now had before =
        quiet-said plan n k (passed Side.Sent head payload) journal no-begin refl
        (same-count n k (passed Side.Sent head payload) journal (sent-count (life n k journal) head payload)) before
    by-item (passed Side.Received head payload) keeps no-begin now had before =
        received-said plan n k above head payload journal now had no-begin keeps before

    of : (b : Bool) → begins_with plan.raw_uri n k item journal ≡ b → (b || has_profile plan.raw_uri n k journal) ≡ true
        → (has_profile plan.raw_uri n k journal ≡ true → Said plan n k journal) → Said plan n k (item ∷ journal)
    of true begins rest before = begins-said plan n k item journal above begins
    of false begins rest before =
        let going = goes-before n k item journal goes in
        let now = now-is n k journal (record { first = first; begun = profile-begun plan.raw_uri n k journal rest; goes_on = going }) in
        by-item item keeps begins now rest (before rest)

pub said : (plan : PlainPlan) (n k : ℕ) (journal : List Item) → (n == 0) ≡ false → KeepsExchangeRules (life n k journal) → IsLiveLife n k (events journal)
    → has_profile plan.raw_uri n k journal ≡ true → Said plan n k journal
said plan n k journal above keeps live profile = said-on plan n k journal above live.first keeps live.goes_on profile
