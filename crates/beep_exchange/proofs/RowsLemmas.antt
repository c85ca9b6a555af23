-- Each rule as a test of what is kept is the rule over the history.
use Rattle.std.proofs.Common.{◌≡◌, ℕ, ◌+◌, ◌-◌, ◌^◌, ◌<◌, ◌≤◌, ◌==◌, min, nat_lt, Bool, true, false, cond, not, ◌&&◌, ◌||◌, if◌then◌else◌, List, [], ◌∷◌, length, take, drop, map, Option, Some, None, option_map, refl, sym, ap, ◌∙◌, arith, subst, inl, inr, ◌⊎◌}
use Rattle.std.specs.List.{list_any, find}
use Rattle.std.specs.Option.{option_map_or, is_none}
use Rattle.std.proofs.lemmas.Bool.{lt-ltb, le-ltb, eqb-true, cases_order, ne_eqb, eq-eqb}
use Rattle.std.proofs.lemmas.Bool.Decides.{nat_tests}
use Rattle.std.proofs.lemmas.List.{take-take}
use Rattle.beep_frame.specs.declared.head.Head.{Head}
use Rattle.beep_frame.specs.declared.kind.Kind.{Kind}
use Rattle.beep_history.specs.declared.journal.Side.{Side}
use Rattle.beep_frame.specs.Frame.{is_ans, same_kind}
use Rattle.beep_history.specs.Journal.{Item}
use Rattle.beep_history.specs.Marks.{first, previous, Request, requests, latest, is_whole, reply, is_answered, waiting, with_number, without, unfinished, answer_octets}
use Rattle.beep_history.specs.Broken.{under_way}
use Rattle.beep_history.proofs.AnswersLemmas.{has, has_after}
use Rattle.beep_history.proofs.SoundLemmas.{Sound, is_open, requests-numbered, waiting-newest}
use Rattle.beep_exchange.specs.declared.answer.Answer.{Answer}
use Rattle.beep_exchange.specs.Kept as kept
use Rattle.beep_exchange.specs.Kept.{is_current, is_early, has_number, octets_in, has_answer}
use Rattle.beep_exchange.specs.Exchange.{current, answer_of, kept_of}
use Rattle.beep_exchange.proofs.NumbersLemmas.{num, take-num, none-has, has-take, use-is}
use Rattle.beep_exchange.proofs.AskerLemmas.{count-waiting, current-is, current-number, uniform-any}

pub and-cong : (a x y : Bool) → (a ≡ true → x ≡ y) → (a && x) ≡ (a && y)
and-cong true x y e = e refl
and-cong false x y e = refl

pub or-cong : (a x y : Bool) → x ≡ y → (a || x) ≡ (a || y)
or-cong a x y e = rw e

-- ---- kinds

changes-at : (p q : ℕ) (any kind : Bool) → (p ≡ q → any ≡ kind) → (q < p → any ≡ false) → (not (nat_lt p q) && any) ≡ ((p == q) && kind)
changes-at p q any kind same later = changes-by (cases_order p q)
  where
    changes-by : (p ≡ q) ⊎ ((p < q) ⊎ (q < p)) → (not (nat_lt p q) && any) ≡ ((p == q) && kind)
    changes-by (inl e) =
        let t : nat_lt p q ≡ false = le-ltb _ _ (omega arith) in
        let u : (p == q) ≡ true = eq-eqb _ _ e in rw (t, u) (same e)
    changes-by (inr (inl h)) =
        let t : nat_lt p q ≡ true = lt-ltb _ _ h in
        let u : (p == q) ≡ false = ne_eqb _ _ (λ e. omega arith) in rw (t, u)
    changes-by (inr (inr h)) =
        let t : nat_lt p q ≡ false = le-ltb _ _ (omega arith) in
        let u : (p == q) ≡ false = ne_eqb _ _ (λ e. omega arith) in rw (t, u) (later h)

module _ (asker : Side) (past : List Item) (s : Sound asker past) (n : ℕ) (k : Kind) where
  changes-found : (o : Option Request) → latest asker n past ≡ o
      → option_map_or (λ (r : Request). not (is_answered asker r.position past) && list_any (λ (frame : Head). not (same_kind frame.kind k)) (reply asker r.position past)) o false
      ≡ (option_map_or (λ (r : Request). r.position == s.oldest) o false
      && option_map_or (λ (kind : Kind). not (same_kind kind k)) (kept_of asker past).kind false)
  changes-found None found = refl
  changes-found (Some r) found =
      rw (s.answered r.position) (changes-at r.position s.oldest _ _
      (λ same. subst (λ (p : ℕ). list_any (λ (frame : Head). not (same_kind frame.kind k)) (reply asker p past)
      ≡ option_map_or (λ (kind : Kind). not (same_kind kind k)) (option_map (λ (frame : Head). frame.kind) (first (current asker past))) false)
      (sym same)
      (uniform-any k (reply asker s.oldest past) s.uniform
      ∙ ap (λ (frames : List Head). option_map_or (λ (kind : Kind). not (same_kind kind k)) (option_map (λ (frame : Head). frame.kind) (first frames)) false)
      (sym (current-is asker past s))))
      (λ later. rw (s.later r.position later)))

  -- the reply that a header names changes its kind where the reply to the oldest does
  pub changes-row : (is_current (kept_of asker past) n && option_map_or (λ (kind : Kind). not (same_kind kind k)) (kept_of asker past).kind false)
      ≡ option_map_or (λ (r : Request). not (is_answered asker r.position past) && list_any (λ (frame : Head). not (same_kind frame.kind k)) (reply asker r.position past))
      (latest asker n past) false
  changes-row = rw (current-number asker past s n) (sym (changes-found (latest asker n past) refl))

-- ---- numbers in use

any-agree : {X : Type 0} (f g : X → Bool) (xs : List X) → ((x : X) → f x ≡ g x) → list_any f xs ≡ list_any g xs
any-agree f g [] agree = refl
any-agree f g (x ∷ xs) agree = rw (agree x, any-agree f g xs agree)

pub use-row : (side : Side) (past : List Item) (s : Sound side past) (n : ℕ)
    → has_number n (drop (if kept.is_open (kept_of side past) then 1 else 0) (take (length (waiting side past)) (take 1024 (num (requests side past)))))
    ≡ list_any (λ (r : Request). r.number == n && is_whole side r.position past) (waiting side past)
use-row side past s n =
    let count = count-waiting side past s in
    let b : Bool = is_open (under_way side past) (previous side past) in
    let fewer : take (length (waiting side past)) (take 1024 (num (requests side past))) ≡ take (length (waiting side past)) (num (requests side past)) =
    take-take (length (waiting side past)) 1024 (num (requests side past)) (omega (arith, count, s.few)) in
    let newest : waiting side past ≡ take (length (waiting side past)) (requests side past) =
    waiting-newest side past s.oldest s.answered ∙ ap (λ (w : ℕ). take w (requests side past)) (sym count) in
    rw fewer
    (sym (use-is n (length (waiting side past)) b (requests side past) (requests-numbered side past))
    ∙ sym (any-agree (λ (r : Request). r.number == n && is_whole side r.position past)
    (λ (r : Request). r.number == n && nat_lt (r.position + (if b then 1 else 0)) (length (requests side past))) (take (length (waiting side past)) (requests side past))
    (λ r. ap (λ (x : Bool). r.number == n && x) (s.whole r.position)))
    ∙ ap (list_any (λ (r : Request). r.number == n && is_whole side r.position past)) (sym newest))

-- ---- replies

within-window : (o : Option Request) (q w l : ℕ) → q + w ≡ l → w ≤ 1024
    → option_map_or (λ (r : Request). r.position == q) o false ≡ true → option_map_or (λ (r : Request). nat_lt l (r.position + 1024 + 1)) o false ≡ true
within-window None q w l e few is = is
within-window (Some r) q w l e few is = lt-ltb _ _ (omega (arith, eqb-true _ _ is))

not-both-at : (cur all : Bool) → (cur ≡ true → all ≡ true) → (not cur && not all) ≡ not all
not-both-at true all e = let t = e refl in rw t
not-both-at false all e = refl

pub never-row : (asker : Side) (past : List Item) (s : Sound asker past) (n : ℕ)
    → (not (is_current (kept_of asker past) n) && not (has_number n (take 1024 (num (requests asker past)))))
    ≡ is_none (find (λ (r : Request). r.number == n) (take 1024 (requests asker past)))
never-row asker past s n =
    let count = count-waiting asker past s in
    not-both-at (is_current (kept_of asker past) n) (has n (take 1024 (num (requests asker past))))
    (λ cur. has-take n 1024 (requests asker past) (requests-numbered asker past)
    ∙ within-window (latest asker n past) s.oldest (length (waiting asker past)) (length (requests asker past)) (omega (arith, count, s.within)) (omega (arith, count, s.few))
    (sym (current-number asker past s n) ∙ cur))
    ∙ ap (λ (ns : List ℕ). not (has n ns)) (take-num 1024 (requests asker past))
    ∙ sym (none-has n (take 1024 (requests asker past)))

-- ---- answers

pub has-answers : (frames : List Head) (n : ℕ) (us : List ℕ) → has_answer n (map (answer_of frames) us) ≡ has n us
has-answers frames n [] = refl
has-answers frames n (u ∷ us) = or-cong (u == n) _ _ (has-answers frames n us)

octets-step : (frames : List Head) (n u : ℕ) (b : Bool) (rest : Option Answer) (any : Bool) → (u == n) ≡ b
    → option_map_or (λ (answer : Answer). answer.octets) rest 0 ≡ (if any then min (answer_octets n frames) (2 ^ 32 - 1) else 0)
    → option_map_or (λ (answer : Answer). answer.octets) (cond b (Some (answer_of frames u)) rest) 0
    ≡ (if b || any then min (answer_octets n frames) (2 ^ 32 - 1) else 0)
octets-step frames n u true rest any e later = ap (λ (x : ℕ). min (answer_octets x frames) (2 ^ 32 - 1)) (eqb-true _ _ e)
octets-step frames n u false rest any e later = later

pub octets-answers : (frames : List Head) (n : ℕ) (us : List ℕ)
    → octets_in n (map (answer_of frames) us) ≡ (if has n us then min (answer_octets n frames) (2 ^ 32 - 1) else 0)
octets-answers frames n [] = refl
octets-answers frames n (u ∷ us) = octets-step frames n u (u == n) _ (has n us) refl (octets-answers frames n us)

octets-none-step : (n a size rest : ℕ) (more had : Bool) → (if a == n then more else had) ≡ false → (had ≡ false → rest ≡ 0)
    → (if a == n then (if more then size + rest else 0) else rest) ≡ 0
octets-none-step n a size rest more had none before = octets-none-by (a == n) none
  where
    octets-none-by : (b : Bool) → (if b then more else had) ≡ false → (if b then (if more then size + rest else 0) else rest) ≡ 0
    octets-none-by true e = rw e
    octets-none-by false e = before e

octets-none-frame : (n : ℕ) (frame : Head) (frames : List Head) (b : Bool)
    → has n (if b then (if frame.more then with_number frame.ansno (unfinished frames) else without frame.ansno (unfinished frames)) else unfinished frames) ≡ false
    → (has n (unfinished frames) ≡ false → answer_octets n frames ≡ 0)
    → (if b && frame.ansno == n then (if frame.more then frame.size + answer_octets n frames else 0) else answer_octets n frames) ≡ 0
octets-none-frame n frame frames true none before =
    octets-none-step n frame.ansno frame.size (answer_octets n frames) frame.more (has n (unfinished frames))
    (sym (has_after n frame.ansno frame.more (unfinished frames)) ∙ none) before
octets-none-frame n frame frames false none before = before none

-- an answer that is not unfinished has no octets that count
pub octets-none : (n : ℕ) (frames : List Head) → has n (unfinished frames) ≡ false → answer_octets n frames ≡ 0
octets-none n [] none = refl
octets-none n (frame ∷ frames) none = octets-none-frame n frame frames (is_ans frame.kind) none (octets-none n frames)

empty-at : (size octets : ℕ) (any : Bool) → (any ≡ false → octets ≡ 0)
    → (size == 0 && (if any then min octets (2 ^ 32 - 1) else 0) == 0) ≡ (size + octets == 0)
empty-at size octets true none = empty-some size octets
  where
    empty-some : (a b : ℕ) → (a == 0 && min b (2 ^ 32 - 1) == 0) ≡ (a + b == 0)
    empty-some a b = grind (arith, nat_tests)
empty-at size octets false none = let e = none refl in empty-none size octets e
  where
    empty-none : (a b : ℕ) → b ≡ 0 → (a == 0 && 0 == 0) ≡ (a + b == 0)
    empty-none a b e = grind (arith, nat_tests)

-- a complete answer is empty where this frame is, and what came before
pub empty-row : (size n : ℕ) (frames : List Head)
    → (size == 0 && octets_in n (map (answer_of frames) (unfinished frames)) == 0) ≡ (size + answer_octets n frames == 0)
empty-row size n frames =
    rw (octets-answers frames n (unfinished frames)) (empty-at size (answer_octets n frames) (has n (unfinished frames)) (octets-none n frames))
