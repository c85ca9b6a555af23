-- A life has items between its begin and its end alone.
use Rattle.std.proofs.Common.{◌≡◌, ℕ, ◌+◌, ◌<◌, ◌≤◌, ◌==◌, nat_lt, Bool, true, false, not, ◌&&◌, if◌then◌else◌, List, [], ◌∷◌, ◌++◌, refl, sym, ap, ◌∙◌, arith}
use Rattle.std.proofs.lemmas.Bool.{eqb-true}
use Rattle.std.proofs.lemmas.Bool.Decides.{nat_tests}
use Rattle.beep_frame.specs.declared.head.Head.{Head}
use Rattle.beep_frame.specs.declared.seq.Seq.{Seq}
use Rattle.beep_history.specs.declared.journal.Side.{Side}
use Rattle.beep_history.specs.Journal.{Item, began, passed, told, same_side}
use Rattle.beep_journal.specs.Lives.{Event, close_came, start_granted, close_granted, lives, has_ended, is_live}
use Rattle.beep_journal.specs.Zero.{channel_of, zero_history, zero_events, effect, events}
use Rattle.beep_journal.specs.Life.{life_now, life_under_way, is_of_life, life}
use Rattle.beep_journal.specs.Laws.{no_header}

-- ---- lives never grow fewer

if-more : (b : Bool) (n : ℕ) → n ≤ (if b then n + 1 else n)
if-more true n = omega arith
if-more false n = omega arith

more-lives : (n : ℕ) (newer es : List Event) → lives n es ≤ lives n (newer ++ es)
more-lives n [] es = omega arith
more-lives n (close_came side position of ∷ newer) es = more-lives n newer es
more-lives n (close_granted side position of ∷ newer) es = more-lives n newer es
more-lives n (start_granted of ∷ newer) es =
    omega (arith, more-lives n newer es, if-more (of == n && not (nat_lt 0 (lives n (newer ++ es)) && not (has_ended n (lives n (newer ++ es)) (newer ++ es)))) (lives n (newer ++ es)))

zero-more : (n : ℕ) (item : Item) (zero : List Item) → lives n (zero_events zero) ≤ lives n (zero_events (item ∷ zero))
zero-more n (began by head) zero = omega arith
zero-more n (passed by head payload) zero = more-lives n (effect by head payload zero) (zero_events zero)
zero-more n (told by seq) zero = omega arith

item-more : (n : ℕ) (item : Item) (zero : List Item) (b : Bool)
    → lives n (zero_events zero) ≤ lives n (zero_events (if b then item ∷ zero else zero))
item-more n item zero true = zero-more n item zero
item-more n item zero false = omega arith

events-more : (n : ℕ) (item : Item) (journal : List Item) → lives n (events journal) ≤ lives n (events (item ∷ journal))
events-more n item journal = item-more n item (zero_history journal) (channel_of item == 0)

-- ---- a life that is named has begun

live-within : (n : ℕ) (es : List Event) (b : Bool) → is_live n es ≡ b → (if b then lives n es else 0) ≤ lives n es
live-within n es true live = omega arith
live-within n es false live = omega arith

now-within : (n : ℕ) (journal : List Item) → life_now n journal ≤ lives n (events journal)
now-within n journal = live-within n (events journal) (is_live n (events journal)) refl

began-within : (n bound now under : ℕ) (same here : Bool) → now ≤ bound → under ≤ bound
    → (if same then (if here then now else 0) else under) ≤ bound
began-within n bound now under true true a b = a
began-within n bound now under true false a b = omega arith
began-within n bound now under false here a b = b

under-within : (n : ℕ) (side : Side) (journal : List Item) → life_under_way n side journal ≤ lives n (events journal)
under-within n side [] = omega arith
under-within n side (began by head ∷ journal) =
    let before : life_under_way n side (began by head ∷ journal) ≤ lives n (events journal) =
    began-within n (lives n (events journal)) (life_now n journal) (life_under_way n side journal) (same_side by side) (head.channel == n)
    (now-within n journal) (under-within n side journal) in
    omega (arith, events-more n (began by head) journal, before)
under-within n side (passed by head payload ∷ journal) =
    let before : life_under_way n side (passed by head payload ∷ journal) ≤ lives n (events journal) = under-within n side journal in
    omega (arith, events-more n (passed by head payload) journal, before)
under-within n side (told by seq ∷ journal) =
    let before : life_under_way n side (told by seq ∷ journal) ≤ lives n (events journal) = under-within n side journal in
    omega (arith, events-more n (told by seq) journal, before)

-- ---- before its begin a life has no item

not-counted : (here : Bool) (count k : ℕ) (t : Bool) → (count == k) ≡ t → count < k → (here && t) ≡ false
not-counted true count k true test below = absurd (omega (arith, eqb-true _ _ test, below))
not-counted true count k false test below = refl
not-counted false count k t test below = refl

none-of : (n k : ℕ) (item : Item) (journal : List Item) → lives n (events journal) < k → is_of_life n k item journal ≡ false
none-of n k (began by head) journal below =
    not-counted (head.channel == n) (life_now n journal) k _ refl (omega (arith, below, now-within n journal))
none-of n k (passed by head payload) journal below =
    not-counted (head.channel == n) (life_under_way n by journal) k _ refl (omega (arith, below, under-within n by journal))
none-of n k (told by seq) journal below =
    not-counted (seq.channel == n) (life_now n journal) k _ refl (omega (arith, below, now-within n journal))

pub nothing-before : (n k : ℕ) (journal : List Item) → lives n (events journal) < k → life n k journal ≡ []
nothing-before n k [] below = refl
nothing-before n k (item ∷ journal) below =
    let earlier : lives n (events journal) < k = omega (arith, below, events-more n item journal) in
    rw (none-of n k item journal earlier) (nothing-before n k journal earlier)

-- ---- after its end nothing begins in it

ended-other : (n k : ℕ) (es : List Event) (some : Bool) (ended : Bool) → nat_lt 0 (lives n es) ≡ some → has_ended n (lives n es) es ≡ ended
    → 0 < k → has_ended n k es ≡ true → ((if some && not ended then lives n es else 0) == k) ≡ false
ended-other n k es true true a b first over = no_zero k first
  where
    no_zero : (k : ℕ) → 0 < k → (0 == k) ≡ false
    no_zero k first = grind (arith)
ended-other n k es true false a b first over = differ (lives n es == k) refl
  where
    differ : (t : Bool) → (lives n es == k) ≡ t → t ≡ false
    differ true test = (let same : lives n es ≡ k = eqb-true _ _ test in let clash : false ≡ true = sym b ∙ ap (λ x. has_ended n x es) same ∙ over in cc)
    differ false test = refl
ended-other n k es false ended a b first over = no_zero k first
  where
    no_zero : (k : ℕ) → 0 < k → (0 == k) ≡ false
    no_zero k first = grind (arith)

and-false : (b : Bool) → (b && false) ≡ false
and-false true = refl
and-false false = refl

pub nothing-begins : (n k : ℕ) (side : Side) (head : Head) (journal : List Item) → 0 < k → has_ended n k (events journal) ≡ true
    → is_of_life n k (began side head) journal ≡ false
nothing-begins n k side head journal first over =
    ap (λ x. (head.channel == n) && x) (ended-other n k (events journal) _ _ refl refl first over) ∙ and-false (head.channel == n)

-- ---- one life

is-itself : (n : ℕ) → (n == n) ≡ true
is-itself n = grind (arith, nat_tests)

both-true : (a b : Bool) → a ≡ true → b ≡ true → (a && b) ≡ true
both-true true true e f = refl
both-true true false e f = cc
both-true false b e f = cc

pub header-of-live : (side : Side) (head : Head) (journal : List Item)
    → is_of_life head.channel (life_now head.channel journal) (began side head) journal ≡ true
header-of-live side head journal = both-true _ _ (is-itself head.channel) (is-itself (life_now head.channel journal))

pub seq-of-live : (side : Side) (seq : Seq) (journal : List Item)
    → is_of_life seq.channel (life_now seq.channel journal) (told side seq) journal ≡ true
seq-of-live side seq journal = both-true _ _ (is-itself seq.channel) (is-itself (life_now seq.channel journal))

second-true : (a b : Bool) → (a && b) ≡ true → b ≡ true
second-true true b e = e
second-true false b e = cc

same-count : (here : Bool) (count one other : ℕ) → (here && (count == one)) ≡ true → (here && (count == other)) ≡ true → one ≡ other
same-count here count one other e f =
    sym (eqb-true _ _ (second-true here (count == one) e)) ∙ eqb-true _ _ (second-true here (count == other) f)

pub one-life : (number one other : ℕ) (item : Item) (journal : List Item)
    → is_of_life number one item journal ≡ true → is_of_life number other item journal ≡ true → one ≡ other
one-life number one other (began by head) journal e f = same-count (head.channel == number) (life_now number journal) one other e f
one-life number one other (passed by head payload) journal e f = same-count (head.channel == number) (life_under_way number by journal) one other e f
one-life number one other (told by seq) journal e f = same-count (seq.channel == number) (life_now number journal) one other e f

-- ---- a frame belongs to the life of its header

self-side : (side : Side) → same_side side side ≡ true
self-side Side.Received = refl
self-side Side.Sent = refl

-- of a header that is the latest of its side
under-header : (n : ℕ) (side : Side) (head : Head) (earlier : List Item)
    → life_under_way n side (began side head ∷ earlier) ≡ (if head.channel == n then life_now n earlier else 0)
under-header n side head earlier =
    ap (λ (b : Bool). if b then (if head.channel == n then life_now n earlier else 0) else life_under_way n side earlier) (self-side side)

not-same : (a b : Bool) → (not a && b) ≡ true → a ≡ false
not-same false b e = refl
not-same true b e = absurd (let g : false ≡ true = e in cc)

and-rest : (a b : Bool) → (not a && b) ≡ true → b ≡ true
and-rest false b e = e
and-rest true b e = absurd (let g : false ≡ true = e in cc)

under-later : (n : ℕ) (side : Side) (rest : List Item) (later : List Item) → no_header side later ≡ true
    → life_under_way n side (later ++ rest) ≡ life_under_way n side rest
under-later n side rest [] none = refl
under-later n side rest (began by head ∷ later) none =
    ap (λ (b : Bool). if b then (if head.channel == n then life_now n (later ++ rest) else 0) else life_under_way n side (later ++ rest))
    (not-same (same_side by side) (no_header side later) none)
    ∙ under-later n side rest later (and-rest (same_side by side) (no_header side later) none)
under-later n side rest (passed by head payload ∷ later) none = under-later n side rest later none
under-later n side rest (told by seq ∷ later) none = under-later n side rest later none

chosen-same : (here : Bool) (now count : ℕ) → (here && (if here then now else 0) == count) ≡ (here && now == count)
chosen-same true now count = refl
chosen-same false now count = refl

pub frame-of-header : (n k : ℕ) (side : Side) (head : Head) (payload : List ℕ) (later earlier : List Item) → no_header side later ≡ true
    → is_of_life n k (passed side head payload) (later ++ began side head ∷ earlier) ≡ is_of_life n k (began side head) earlier
frame-of-header n k side head payload later earlier none =
    let under : life_under_way n side (later ++ began side head ∷ earlier) ≡ (if head.channel == n then life_now n earlier else 0) =
    under-later n side (began side head ∷ earlier) later none ∙ under-header n side head earlier in
    ap (λ (m : ℕ). head.channel == n && m == k) under ∙ chosen-same (head.channel == n) (life_now n earlier) k
