-- When a life may end, over the items of a journal.
use Rattle.std.proofs.Common.{◌≡◌, ℕ, suc, ◌<◌, ◌≤◌, ◌==◌, nat_lt, Bool, true, false, not, ◌&&◌, ◌||◌, if◌then◌else◌, List, [], ◌∷◌, ◌++◌, length, length-append, filter, Option, refl, sym, ap, ◌∙◌, arith}
use Rattle.std.specs.List.{list_any}
use Rattle.beep_management.specs.beep_frame.specs.declared.head.Head.{Head}
use Rattle.beep_management.specs.beep_frame.specs.Frame.{is_msg}
use Rattle.beep_management.specs.beep_history.specs.declared.journal.Side.{Side}
use Rattle.beep_management.specs.beep_history.specs.Journal.{Item, began, passed, told, same_side}
use Rattle.beep_management.specs.beep_history.specs.Marks.{Request, begins_request, requests, waiting, is_answered}
use Rattle.beep_management.specs.beep_history.proofs.ListsLemmas.{IsNumbered}
use Rattle.beep_management.specs.beep_history.proofs.SoundLemmas.{requests-numbered}
use Rattle.beep_management.specs.beep_mgmt.specs.Form.{Form}
use Rattle.beep_management.specs.beep_mgmt.specs.Message.{message_said}
use Rattle.beep_management.specs.beep_journal.specs.Zero.{channel_of, zero_history, gathered, asked, said_at}
use Rattle.beep_management.specs.beep_journal.specs.Life.{life_now, life, history}
use Rattle.beep_management.specs.beep_journal.proofs.MomentLemmas.{apart-zero}
use Rattle.beep_management.specs.beep_decide.specs.Asks.{is_close_of}
use Rattle.beep_lawful.specs.Closing.{none_waits_before, is_idle, has_begun, was_idle_since, has_other_asking, is_ready, begins_asking, asks_again, has_come, was_ready_since, was_quiet_since}
use Rattle.beep_upright.proofs.TestLemmas.{both-one, or-true, apart-more, less-is, is-less, not-less}

-- ---- what was asked grows

more-asked : (side : Side) (item : Item) (zero : List Item) → length (asked side zero) ≤ length (asked side (item ∷ zero))
more-asked side (began by head) zero = omega arith
more-asked side (told by seq) zero = omega arith
more-asked side (passed by head payload) zero = of (same_side by side && (is_msg head.kind && not head.more))
  where
    of : (b : Bool) → length (asked side zero) ≤ length (if b then message_said (gathered side zero ++ payload) ∷ asked side zero else asked side zero)
    of true = omega arith
    of false = omega arith

pub asked-grows : (side : Side) (item : Item) (journal : List Item) → length (asked side (zero_history journal)) ≤ length (asked side (zero_history (item ∷ journal)))
asked-grows side item journal = of (channel_of item == 0)
  where
    of : (b : Bool) → length (asked side (zero_history journal)) ≤ length (asked side (if b then item ∷ zero_history journal else zero_history journal))
    of true = more-asked side item (zero_history journal)
    of false = omega arith

pub requests-grow : (side : Side) (item : Item) (past : List Item) → length (requests side past) ≤ length (requests side (item ∷ past))
requests-grow side (passed by head payload) past = omega arith
requests-grow side (told by seq) past = omega arith
requests-grow side (began by head) past = of (same_side by side && begins_request side past head)
  where
    of : (b : Bool) → length (requests side past) ≤ length (if b then record { position = length (requests side past); number = head.msgno } ∷ requests side past else requests side past)
    of true = omega arith
    of false = omega arith

pub zero-requests-grow : (side : Side) (item : Item) (journal : List Item)
    → length (requests side (zero_history journal)) ≤ length (requests side (zero_history (item ∷ journal)))
zero-requests-grow side item journal = of (channel_of item == 0)
  where
    of : (b : Bool) → length (requests side (zero_history journal)) ≤ length (requests side (if b then item ∷ zero_history journal else zero_history journal))
    of true = requests-grow side item (zero_history journal)
    of false = omega arith

-- ---- what a close waits for, with one item more

-- a request that came has come
come-on : (p : ℕ) (item : Item) (journal : List Item) → has_come p journal ≡ true → has_come p (item ∷ journal) ≡ true
come-on p item journal come = is-less p _ (omega (arith, less-is p (length (asked Side.Received (zero_history journal))) come, asked-grows Side.Received item journal))

module _ (p n c : ℕ) (forms : List (Option Form)) where
  quiet-come : (journal : List Item) → was_quiet_since p n c forms journal ≡ true → has_come p journal ≡ true
  quiet-come [] e = cc
  quiet-come (item ∷ journal) e = both-one (has_come p (item ∷ journal)) _ e

  -- it holds on, where no own request of the life begins
  pub quiet-on : (item : Item) (journal : List Item) → asks_again n c forms item journal ≡ false → was_quiet_since p n c forms journal ≡ true
      → was_quiet_since p n c forms (item ∷ journal) ≡ true
  quiet-on item journal none quiet =
      let come : has_come p (item ∷ journal) ≡ true = come-on p item journal (quiet-come journal quiet) in
      rw (come, none, quiet) (or-true (is_ready n c forms (item ∷ journal)))

  -- as the `ok` has nothing to wait for, it holds
  pub quiet-now : (item : Item) (journal : List Item) → has_come p (item ∷ journal) ≡ true → is_ready n c forms (item ∷ journal) ≡ true
      → was_quiet_since p n c forms (item ∷ journal) ≡ true
  quiet-now item journal come ready = rw (come, ready) refl

  -- where it holds, the `ok` isn't too soon
  pub quiet-ready : (journal : List Item) → was_quiet_since p n c forms journal ≡ true → was_ready_since p n c forms journal ≡ true
  quiet-ready [] e = cc
  quiet-ready (item ∷ journal) e =
      of (has_come p (item ∷ journal)) (is_ready n c forms (item ∷ journal)) (not (asks_again n c forms item journal)) (was_quiet_since p n c forms journal)
      (was_ready_since p n c forms journal) e (quiet-ready journal)
    where
      of : (come ready none quiet since : Bool) → (come && (ready || (none && quiet))) ≡ true → (quiet ≡ true → since ≡ true) → (come && (ready || since)) ≡ true
      of true true none quiet since e later = refl
      of true false true quiet since e later = later e
      of true false false quiet since e later = cc
      of false ready none quiet since e later = cc

-- a header that begins no own request asks nothing
pub none-begins : (n c : ℕ) (forms : List (Option Form)) (head : Head) (journal : List Item) → begins_request Side.Sent (history head.channel journal) head ≡ false
    → asks_again n c forms (began Side.Sent head) journal ≡ false
none-begins n c forms head journal none = rw none refl

-- ---- by what more requests say

pub said-before : (extra forms : List (Option Form)) (q : ℕ) → q < length forms → said_at q (extra ++ forms) ≡ said_at q forms
said-before [] forms q h = refl
said-before (form ∷ extra) forms q h =
    rw (apart-more (length (extra ++ forms)) q (omega (arith, h, length-append extra forms))) (said-before extra forms q h)

-- tests that agree on the positions of requests
any-below : (rs : List Request) (keeps f g : Request → Bool) → IsNumbered rs → ((r : Request) → r.position < length rs → f r ≡ g r)
    → list_any f (filter keeps rs) ≡ list_any g (filter keeps rs)
any-below [] keeps f g numbered same = refl
any-below (r ∷ rs) keeps f g numbered same = of (keeps r) (any-below rs keeps f g numbered.1 (λ one h. same one (omega (arith, h))))
  where
    of : (b : Bool) → list_any f (filter keeps rs) ≡ list_any g (filter keeps rs)
        → list_any f (if b then r ∷ filter keeps rs else filter keeps rs) ≡ list_any g (if b then r ∷ filter keeps rs else filter keeps rs)
    of true rest = rw (same r (omega (arith, numbered.0)), rest) refl
    of false rest = rest

module _ (extra forms : List (Option Form)) where
  other-same : (zero : List Item) → length (requests Side.Sent zero) ≤ length forms → has_other_asking (extra ++ forms) zero ≡ has_other_asking forms zero
  other-same zero within =
      any-below (requests Side.Sent zero) (λ r. not (is_answered Side.Sent r.position zero))
      (λ r. not (is_close_of 0 (said_at r.position (extra ++ forms)))) (λ r. not (is_close_of 0 (said_at r.position forms)))
      (requests-numbered Side.Sent zero)
      (λ r h. ap (λ (o : Option Form). not (is_close_of 0 o)) (said-before extra forms r.position (omega (arith, h, within))))

  ready-same : (n c : ℕ) (journal : List Item) → length (requests Side.Sent (zero_history journal)) ≤ length forms
      → is_ready n c (extra ++ forms) journal ≡ is_ready n c forms journal
  ready-same n c journal within = rw (other-same (zero_history journal) within) refl

  asks-same : (n c : ℕ) (item : Item) (journal : List Item) → length (requests Side.Sent (zero_history (item ∷ journal))) ≤ length forms
      → asks_again n c (extra ++ forms) item journal ≡ asks_again n c forms item journal
  asks-same n c (began Side.Received head) journal within = refl
  asks-same n c (passed by head payload) journal within = refl
  asks-same n c (told by seq) journal within = refl
  asks-same n c (began Side.Sent head) journal within = of (head.channel == 0) refl (begins_request Side.Sent (history head.channel journal) head) refl
    where
      one-more : (head.channel == 0) ≡ true → begins_request Side.Sent (history head.channel journal) head ≡ true
          → length (requests Side.Sent (zero_history journal)) < length forms
      one-more zero begins =
          let here : begins_request Side.Sent (zero_history journal) head ≡ true =
          sym (ap (λ (b : Bool). begins_request Side.Sent (if b then zero_history journal else life head.channel (life_now head.channel journal) journal) head) zero) ∙ begins in
          let more : length (requests Side.Sent (zero_history (began Side.Sent head ∷ journal))) ≡ suc (length (requests Side.Sent (zero_history journal))) = rw (zero, here) refl in
          omega (arith, within, more)

      of : (z : Bool) → (head.channel == 0) ≡ z → (b : Bool) → begins_request Side.Sent (history head.channel journal) head ≡ b
          → begins_asking n c (extra ++ forms) head journal ≡ begins_asking n c forms head journal
      of z zero false begins = rw begins refl
      of false zero true begins = rw (begins, zero) refl
      of true zero true begins = rw (said-before extra forms (length (requests Side.Sent (zero_history journal))) (one-more zero begins)) refl

  pub quiet-same : (p n c : ℕ) (journal : List Item) → length (requests Side.Sent (zero_history journal)) ≤ length forms
      → was_quiet_since p n c (extra ++ forms) journal ≡ was_quiet_since p n c forms journal
  quiet-same p n c [] within = refl
  quiet-same p n c (item ∷ journal) within =
      rw (
        ready-same n c (item ∷ journal) within,
        asks-same n c item journal within,
        quiet-same p n c journal (omega (arith, within, zero-requests-grow Side.Sent item journal)),
      ) refl

-- ---- a header of channel zero that goes out

module _ (p : ℕ) (head : Head) (journal : List Item) (zero : (head.channel == 0) ≡ true) (within : p ≤ length (requests Side.Sent (zero_history journal))) where
  -- no request before it waits, as before
  none-sooner : none_waits_before p (began Side.Sent head ∷ zero_history journal) ≡ none_waits_before p (zero_history journal)
  none-sooner = ap not (of (begins_request Side.Sent (zero_history journal) head) (not (is_answered Side.Sent (length (requests Side.Sent (zero_history journal))) (zero_history journal))))
    where
      new : Request
      new = record { position = length (requests Side.Sent (zero_history journal)); number = head.msgno }

      of : (b k : Bool) → list_any (λ request. nat_lt request.position p) (filter (λ request. not (is_answered Side.Sent request.position (zero_history journal)))
          (if b then new ∷ requests Side.Sent (zero_history journal) else requests Side.Sent (zero_history journal)))
          ≡ list_any (λ request. nat_lt request.position p) (waiting Side.Sent (zero_history journal))
      of false k = refl
      of true k = by (not (is_answered Side.Sent new.position (zero_history journal)))
        where
          by : (k : Bool) → list_any (λ request. nat_lt request.position p) (if k then new ∷ waiting Side.Sent (zero_history journal) else waiting Side.Sent (zero_history journal))
              ≡ list_any (λ request. nat_lt request.position p) (waiting Side.Sent (zero_history journal))
          by true = rw (not-less (length (requests Side.Sent (zero_history journal))) p within) refl
          by false = refl

  idle-same : (n c : ℕ) → is_idle p n c (began Side.Sent head ∷ journal) ≡ is_idle p n c journal
  idle-same n c = of (n == 0) refl
    where
      of : (b : Bool) → (n == 0) ≡ b → is_idle p n c (began Side.Sent head ∷ journal) ≡ is_idle p n c journal
      of true e = rw (e, zero) none-sooner
      of false e = rw (e, apart-zero head.channel n zero e) refl

  -- the life was idle still
  pub idle-on : (n c : ℕ) → is_idle p n c journal ≡ true → was_idle_since p n c journal ≡ true → was_idle_since p n c (began Side.Sent head ∷ journal) ≡ true
  idle-on n c now since = rw (idle-same n c, now, since) (of (has_begun p (began Side.Sent head ∷ journal)))
    where
      of : (b : Bool) → (true && (if b then true else true)) ≡ true
      of true = refl
      of false = refl
