-- What is kept of the side that asked, against the latest request of a number.
use Rattle.std.proofs.Common.{◌≡◌, ℕ, zero, suc, ◌+◌, ◌-◌, ◌<◌, ◌≤◌, ◌==◌, nat_lt, Bool, true, false, not, ◌&&◌, ◌||◌, if◌then◌else◌, List, [], ◌∷◌, length, take, get_or, Option, Some, None, option_map, refl, sym, ap, ◌∙◌, arith, subst, ◌⊎◌, inl, inr, length-take, slice_index}
use Rattle.std.specs.List.{list_any}
use Rattle.std.specs.Option.{option_map_or}
use Rattle.std.proofs.lemmas.Bool.{lt-ltb, le-ltb, ltb-false, cases_lt, ne_eqb, eq-eqb}
use Rattle.std.proofs.lemmas.Bool.Decides.{nat_tests}
use Rattle.std.proofs.lemmas.List.{get_or-take, take-take}
use Rattle.beep_frame.specs.declared.head.Head.{Head}
use Rattle.beep_frame.specs.declared.kind.Kind.{Kind}
use Rattle.beep_history.specs.declared.journal.Side.{Side}
use Rattle.beep_frame.specs.Frame.{same_kind}
use Rattle.beep_history.specs.Journal.{Item}
use Rattle.beep_history.specs.Marks.{first, previous, Request, requests, latest, is_whole, reply, is_answered, waiting}
use Rattle.beep_history.specs.Broken.{under_way}
use Rattle.beep_history.proofs.AnswersLemmas.{has}
use Rattle.beep_history.proofs.ListsLemmas.{IsNumbered, find-below, earlier-waits}
use Rattle.beep_history.proofs.SoundLemmas.{IsAlike, IsUniform, IsApartFirst, is_open, Sound, requests-numbered, waiting-newest}
use Rattle.beep_history.proofs.UnbrokenLemmas.{min-less}
use Rattle.beep_exchange.specs.Kept.{is_current}
use Rattle.beep_exchange.specs.Exchange.{current, kept_of}
use Rattle.beep_exchange.proofs.NumbersLemmas.{num, at, has-take, first-is, nth-is}

-- ---- how many wait

pub count-waiting : (side : Side) (past : List Item) (s : Sound side past) → length (waiting side past) ≡ length (requests side past) - s.oldest
count-waiting side past s =
    ap length (waiting-newest side past s.oldest s.answered)
    ∙ length-take (length (requests side past) - s.oldest) (requests side past)
    ∙ min-less (length (requests side past)) s.oldest

pub current-is : (side : Side) (past : List Item) (s : Sound side past) → current side past ≡ reply side s.oldest past
current-is side past s =
    let count = count-waiting side past s in
    let e : length (requests side past) - length (waiting side past) ≡ s.oldest = omega (arith, count, s.within) in
    ap (λ (p : ℕ). reply side p past) e

-- ---- the oldest that waits

none-at : (n q : ℕ) (rs : List Request) (o : Option Request) → IsNumbered rs → q + 0 ≡ length rs → at n rs ≡ o
    → false ≡ option_map_or (λ (r : Request). r.position == q) o false
none-at n q rs None numbered e f = refl
none-at n q rs (Some r) numbered e f =
    let below : r.position < length rs = find-below (λ (x : Request). x.number == n) rs r numbered f in
    sym (ne_eqb _ _ (λ h. omega arith))

same-place : (q w l : ℕ) (o : Option Request) → q + suc w ≡ l
    → option_map_or (λ (r : Request). r.position + suc w == l) o false ≡ option_map_or (λ (r : Request). r.position == q) o false
same-place q w l None e = refl
same-place q w l (Some r) e = grind (arith, nat_tests)

current-at : (n q w : ℕ) (rs : List Request) → IsNumbered rs → IsApartFirst w (num rs) → q + w ≡ length rs → w ≤ 1024
    → (nat_lt 0 w && slice_index (take 1024 (num rs)) (w - 1) == n) ≡ option_map_or (λ (r : Request). r.position == q) (at n rs) false
current-at n q zero rs numbered apart e few = none-at n q rs (at n rs) numbered e refl
current-at n q (suc w) rs numbered apart e few =
    let waits : nat_lt 0 (suc w) ≡ true = lt-ltb 0 (suc w) (omega arith) in
    let less : suc w - 1 ≡ w = omega arith in
    let there : get_or (take 1024 (num rs)) w 0 ≡ get_or (num rs) w 0 = get_or-take 1024 (num rs) w 0 (omega arith) in
    rw (waits, less, there) (nth-is n w rs numbered apart (omega arith) ∙ same-place q w (length rs) (at n rs) e)

pub current-number : (side : Side) (past : List Item) (s : Sound side past) (n : ℕ)
    → is_current (kept_of side past) n ≡ option_map_or (λ (r : Request). r.position == s.oldest) (latest side n past) false
current-number side past s n =
    let count = count-waiting side past s in
    current-at n s.oldest (length (waiting side past)) (requests side past) (requests-numbered side past)
    (subst (λ (w : ℕ). IsApartFirst w (num (requests side past))) (sym count) s.apart)
    (omega (arith, count, s.within)) (omega (arith, count, s.few))

-- ---- kinds

same-kinds : (a b c : Kind) → same_kind a b ≡ true → same_kind b c ≡ true → same_kind a c ≡ true
same-kinds a b c e f = grind (arith, nat_tests)

alike-any : (j k : Kind) (frames : List Head) → IsAlike j frames → same_kind j k ≡ true
    → list_any (λ (frame : Head). not (same_kind frame.kind k)) frames ≡ false
alike-any j k [] alike same = refl
alike-any j k (frame ∷ frames) alike same = rw (same-kinds frame.kind j k alike.0 same) (alike-any j k frames alike.1 same)

uniform-step : (same any : Bool) → (same ≡ true → any ≡ false) → (not same || any) ≡ not same
uniform-step true any e = e refl
uniform-step false any e = refl

-- frames of one kind have another kind where the latest has
pub uniform-any : (k : Kind) (frames : List Head) → IsUniform frames
    → list_any (λ (frame : Head). not (same_kind frame.kind k)) frames
    ≡ option_map_or (λ (kind : Kind). not (same_kind kind k)) (option_map (λ (frame : Head). frame.kind) (first frames)) false
uniform-any k [] uniform = refl
uniform-any k (frame ∷ frames) uniform = uniform-step (same_kind frame.kind k) _ (alike-any frame.kind k frames uniform)

-- ---- one reply, by the request that it names

-- the last frame has not passed
early-at : (begun : Bool) (p l : ℕ) → p < l → not (nat_lt (p + (if begun then 1 else 0)) l) ≡ (begun && p + 1 == l)
early-at true p l h = grind (arith, nat_tests)
early-at false p l h = grind (arith, nat_tests)

first-take : (ns : List ℕ) → first (take 1024 ns) ≡ first ns
first-take [] = refl
first-take (n ∷ ns) = refl

none-of : (q k : ℕ) → list_any (λ (e : Request). nat_lt e.position q) (take k []) ≡ false
none-of q zero = refl
none-of q (suc k) = refl

none-earlier-step : (q : ℕ) (r : Request) (rs : List Request) → r.position ≡ length rs
    → list_any (λ (e : Request). nat_lt e.position q) (take (length rs - q) rs) ≡ false → (length rs < q) ⊎ (q ≤ length rs)
    → list_any (λ (e : Request). nat_lt e.position q) (take (suc (length rs) - q) (r ∷ rs)) ≡ false
none-earlier-step q r rs placed rest (inl h) = let e : suc (length rs) - q ≡ 0 = omega arith in rw e
none-earlier-step q r rs placed rest (inr h) =
    let e : suc (length rs) - q ≡ suc (length rs - q) = omega arith in
    let here : nat_lt r.position q ≡ false = le-ltb _ _ (omega arith) in
    rw (e, here) rest

-- no request that waits is before the oldest
none-earlier : (q : ℕ) (rs : List Request) → IsNumbered rs → list_any (λ (e : Request). nat_lt e.position q) (take (length rs - q) rs) ≡ false
none-earlier q [] numbered = none-of q (0 - q)
none-earlier q (r ∷ rs) numbered = none-earlier-step q r rs numbered.0 (none-earlier q rs numbered.1) (cases_lt (length rs) q)

turn-step : (q p : ℕ) (rs : List Request) → IsNumbered rs → q ≤ p → p < length rs → (q < p) ⊎ (p ≤ q)
    → list_any (λ (e : Request). nat_lt e.position p) (take (length rs - q) rs) ≡ not (p == q)
turn-step q p rs numbered from below (inl h) =
    let apart : (p == q) ≡ false = ne_eqb _ _ (λ e. omega arith) in
    rw apart (earlier-waits q p rs numbered (omega arith) h)
turn-step q p rs numbered from below (inr h) =
    let same : p ≡ q = omega arith in
    let test : (p == q) ≡ true = eq-eqb _ _ same in
    rw test (subst (λ (x : ℕ). list_any (λ (e : Request). nat_lt e.position x) (take (length rs - q) rs) ≡ false) (sym same) (none-earlier q rs numbered))

module _ (asker : Side) (past : List Item) (s : Sound asker past) (n : ℕ) (r : Request) (found : latest asker n past ≡ Some r) where
  pub place-below : r.position < length (requests asker past)
  place-below = find-below (λ (x : Request). x.number == n) (requests asker past) r (requests-numbered asker past) found

  pub current-place : is_current (kept_of asker past) n ≡ (r.position == s.oldest)
  current-place = current-number asker past s n ∙ rw found refl

  pub early-place : not (is_whole asker r.position past)
      ≡ (is_open (under_way asker past) (previous asker past) && option_map_or (λ x. x == n) (first (take 1024 (num (requests asker past)))) false)
  early-place =
      let newest : option_map_or (λ x. x == n) (first (take 1024 (num (requests asker past)))) false ≡ (r.position + 1 == length (requests asker past)) =
      ap (λ (o : Option ℕ). option_map_or (λ x. x == n) o false) (first-take (num (requests asker past)))
      ∙ first-is n (requests asker past) (requests-numbered asker past) ∙ rw found refl in
      rw (s.whole r.position, newest) (early-at (is_open (under_way asker past) (previous asker past)) r.position (length (requests asker past)) place-below)

  waiting-place : has n (take (length (waiting asker past)) (take 1024 (num (requests asker past))))
      ≡ nat_lt (length (requests asker past)) (r.position + length (waiting asker past) + 1)
  waiting-place =
      let count = count-waiting asker past s in
      ap (has n) (take-take (length (waiting asker past)) 1024 (num (requests asker past)) (omega (arith, count, s.few)))
      ∙ has-take n (length (waiting asker past)) (requests asker past) (requests-numbered asker past) ∙ rw found refl

  pub answered-place : is_answered asker r.position past
      ≡ (not (is_current (kept_of asker past) n) && not (has n (take (length (waiting asker past)) (take 1024 (num (requests asker past))))))
  answered-place =
      let count = count-waiting asker past s in
      rw (current-place, waiting-place)
      (s.answered r.position ∙ before-oldest r.position s.oldest (length (waiting asker past)) (length (requests asker past)) (omega (arith, count, s.within)))
    where
      before-oldest : (p q w l : ℕ) → q + w ≡ l → nat_lt p q ≡ (not (p == q) && not (nat_lt l (p + w + 1)))
      before-oldest p q w l e = grind (arith, nat_tests)

  pub turn-place : is_answered asker r.position past ≡ false
      → list_any (λ (e : Request). nat_lt e.position r.position) (waiting asker past) ≡ not (is_current (kept_of asker past) n)
  turn-place waits =
      let from : s.oldest ≤ r.position = ltb-false _ _ (sym (s.answered r.position) ∙ waits) in
      let newest = waiting-newest asker past s.oldest s.answered in
      rw (current-place, newest)
      (turn-step s.oldest r.position (requests asker past) (requests-numbered asker past) from place-below (cases_lt s.oldest r.position))
