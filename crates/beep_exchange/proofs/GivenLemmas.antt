-- Positions in a row, and the five numbers after each call.
use Rattle.std.proofs.Common.{◌≡◌, ℕ, zero, suc, ◌+◌, ◌-◌, ◌^◌, ◌%◌, ◌<◌, ◌≤◌, ◌==◌, min, nat_lt, Bool, true, false, ◌||◌, if◌then◌else◌, List, [], ◌∷◌, length, option_map, Option, Some, None, refl, sym, ap, ◌∙◌, subst, arith, ⊎_elim, ◌⊎◌}
use Rattle.std.specs.Option.{option_map_or}
use Rattle.std.proofs.lemmas.Bool.{ltb-true, ltb-false, cases_lt}
use Rattle.std.proofs.lemmas.Bool.Decides.{nat_tests}
use Rattle.beep_frame.specs.declared.kind.Kind.{Kind}
use Rattle.beep_frame.specs.declared.tag.Tag.{Tag}
use Rattle.beep_frame.specs.Frame.{is_msg}
use Rattle.beep_history.specs.Marks.{without, modulo_2_64}
use Rattle.beep_exchange.specs.declared.given.Given.{Given}
use Rattle.beep_exchange.specs.Given.{Call, gave, took, least, without_least, requests_given, asked_of, first_asked_of, is_taken, owed_of, first_owed_of, answers_given, IsNextTaken, MayTakeEnd, MayTakeRequest, MayGive, MayTakeOf, MayTake, after_reply, after_end, next_answer, after_given, after_taken, opening_calls, run, Counts}

-- ---- positions in a row

pub least-run : (o w : ℕ) → least (run o (suc w)) ≡ Some o
least-run o zero = ap Some (omega arith)
least-run o (suc w) =
    ap (λ (x : Option ℕ). Some (option_map_or (λ (m : ℕ). min (o + suc w) m) x (o + suc w))) (least-run o w) ∙ ap Some (omega arith)

pub without-run : (o w : ℕ) → without o (run o (suc w)) ≡ run (suc o) w
without-run o zero = let here : (o + zero == o) ≡ true = grind (arith, nat_tests) in rw here
without-run o (suc w) =
    let here : (o + suc w == o) ≡ false = grind (arith, nat_tests) in
    let rest = without-run o w in
    let first : o + suc w ≡ suc o + w = omega arith in
    rw (here, rest, first) refl

pub without_least-run : (o w : ℕ) → without_least (run o (suc w)) ≡ run (suc o) w
without_least-run o w =
    ap (λ (x : Option ℕ). option_map_or (λ (n : ℕ). without n (run o (suc w))) x (run o (suc w))) (least-run o w) ∙ without-run o w

pub length-run : (o w : ℕ) → length (run o w) ≡ w
length-run o zero = refl
length-run o (suc w) = ap suc (length-run o w)

run-more : (o w : ℕ) → run o (w + 1) ≡ (o + w) ∷ run o w
run-more o w = let e : w + 1 ≡ suc w = omega arith in ap (run o) e

-- a row that isn't empty, by one less
module _ (o w : ℕ) (ns : List ℕ) (is : ns ≡ run o w) (some : 0 < w) where
  row-is : ns ≡ run o (suc (w - 1))
  row-is = let e : w ≡ suc (w - 1) = omega arith in is ∙ ap (run o) e

  pub least-row : least ns ≡ Some o
  least-row = ap least row-is ∙ least-run o (w - 1)

  pub without-row : without o ns ≡ run (suc o) (w - 1)
  without-row = ap (without o) row-is ∙ without-run o (w - 1)

  pub without_least-row : without_least ns ≡ run (suc o) (w - 1)
  without_least-row = ap without_least row-is ∙ without_least-run o (w - 1)

-- ---- what calls answer

module _ (given : Given) (calls : List Call) (c : Counts given calls) where
  pub told-asked : given.asked ≡ length (asked_of calls)
  told-asked = sym (ap (length {A = ℕ}) c.asked ∙ length-run c.oldest_asked given.asked)

  pub told-first_asked : 0 < given.asked → Some (given.first_asked % 2147483648) ≡ first_asked_of calls
  told-first_asked some =
      let number : given.first_asked % 2147483648 ≡ c.oldest_asked % 2 ^ 31 = omega (arith, c.first_asked) in
      ap Some number
      ∙ sym (ap (λ (o : Option ℕ). option_map (λ (p : ℕ). p % 2 ^ 31) o) (least-row c.oldest_asked given.asked _ c.asked some))

  pub told-first_asked-none : given.asked ≡ 0 → None ≡ first_asked_of calls
  told-first_asked-none none =
      sym (ap (λ (ns : List ℕ). option_map (λ (p : ℕ). p % 2 ^ 31) (least ns)) (c.asked ∙ ap (run c.oldest_asked) none))

  pub told-first_owed : 0 < given.owed → Some given.first_owed ≡ first_owed_of calls
  told-first_owed some =
      ap Some c.first_owed
      ∙ sym (ap (λ (o : Option ℕ). option_map (λ (p : ℕ). p % 2 ^ 64) o) (least-row c.oldest_owed given.owed _ c.owed some))

  pub told-first_owed-none : given.owed ≡ 0 → None ≡ first_owed_of calls
  told-first_owed-none none =
      sym (ap (λ (ns : List ℕ). option_map (λ (p : ℕ). p % 2 ^ 64) (least ns)) (c.owed ∙ ap (run c.oldest_owed) none))

-- ---- what is given

answers-more : (n : ℕ) (told : Option ℕ) → told ≡ (if nat_lt 0 n then Some (n % 2 ^ 31) else None)
    → Some (next_answer told) ≡ (if nat_lt 0 (n + 1) then Some ((n + 1) % 2 ^ 31) else None)
answers-more zero told e = ap (λ (t : Option ℕ). Some (next_answer t)) e
answers-more (suc n) told e =
    let now : nat_lt 0 (suc n) ≡ true = grind (arith, nat_tests) in
    let test : nat_lt 0 (suc n + 1) ≡ true = grind (arith, nat_tests) in
    let number : (suc n % 2 ^ 31 + 1) % 2 ^ 31 ≡ (suc n + 1) % 2 ^ 31 = omega arith in
    ap (λ (t : Option ℕ). Some (next_answer t)) (e ∙ ap (λ (b : Bool). if b then Some (suc n % 2 ^ 31) else None) now) ∙ ap Some number
    ∙ sym (ap (λ (b : Bool). if b then Some ((suc n + 1) % 2 ^ 31) else None) test)

module _ (given : Given) (calls : List Call) (c : Counts given calls) where
  counts-replied : (kind : Kind) → 0 < given.owed → owed_of (gave kind ∷ calls) ≡ without_least (owed_of calls)
      → asked_of (gave kind ∷ calls) ≡ asked_of calls → requests_given (gave kind ∷ calls) ≡ requests_given calls
      → answers_given (gave kind ∷ calls) ≡ 0 → Counts (after_reply given) (gave kind ∷ calls)
  counts-replied kind some owed asked requested none = record {
    oldest_asked = c.oldest_asked;
    asked = asked ∙ c.asked;
    requested = c.requested ∙ sym requested;
    first_asked = c.first_asked;
    oldest_owed = suc c.oldest_owed;
    owed = owed ∙ without_least-row c.oldest_owed given.owed _ c.owed some;
    taken = λ p. c.taken p ∙ ap (nat_lt p) (omega arith);
    first_owed = omega (arith, c.first_owed);
    answers = sym (ap (λ (n : ℕ). if nat_lt 0 n then Some (n % 2 ^ 31) else None) none);
  }

  pub counts-gave : (kind : Kind) → MayGive given kind → Counts (after_given given kind) (gave kind ∷ calls)
  counts-gave Kind.Msg may = record {
    oldest_asked = c.oldest_asked;
    asked = ap (λ (p : ℕ). p ∷ asked_of calls) (sym c.requested) ∙ ap (λ (ns : List ℕ). (c.oldest_asked + given.asked) ∷ ns) c.asked
        ∙ sym (run-more c.oldest_asked given.asked);
    requested = omega (arith, c.requested);
    first_asked = c.first_asked;
    oldest_owed = c.oldest_owed;
    owed = c.owed;
    taken = c.taken;
    first_owed = c.first_owed;
    answers = c.answers;
  }
  counts-gave Kind.Rpy may = counts-replied Kind.Rpy may.0 refl refl refl refl
  counts-gave Kind.Err may = counts-replied Kind.Err may.0 refl refl refl refl
  counts-gave Kind.Ans may = record {
    oldest_asked = c.oldest_asked;
    asked = c.asked;
    requested = c.requested;
    first_asked = c.first_asked;
    oldest_owed = c.oldest_owed;
    owed = c.owed;
    taken = c.taken;
    first_owed = c.first_owed;
    answers = answers-more (answers_given calls) given.answers c.answers;
  }
  counts-gave Kind.Nul may = counts-replied Kind.Nul may refl refl refl refl

-- ---- what is taken

same-place : (p n : ℕ) → nat_lt p n ≡ false → ((earlier : ℕ) → earlier < p → nat_lt earlier n ≡ true) → p ≡ n
same-place p n untaken least = ⊎_elim
    (λ (below : n < p). let bad = ltb-true n n (least n below) in absurd (omega arith))
    (λ (upto : p ≤ n). let from = ltb-false p n untaken in omega arith) (cases_lt n p)

one-more-taken : (p q n : ℕ) (rest : Bool) → q ≡ n → rest ≡ nat_lt p n → ((q == p) || rest) ≡ nat_lt p (n + 1)
one-more-taken p q n rest at e = grind (arith, nat_tests)

module _ (given : Given) (calls : List Call) (c : Counts given calls) (whole : Tag) where
  pub next-taken : IsNextTaken calls whole.request → whole.request ≡ c.oldest_owed + given.owed
  next-taken next =
      same-place whole.request (c.oldest_owed + given.owed) (sym (c.taken whole.request) ∙ next.untaken)
      (λ earlier below. sym (c.taken earlier) ∙ next.least earlier below)

  counts-ended : 0 < given.asked → least (asked_of calls) ≡ Some whole.request
      → asked_of (took whole ∷ calls) ≡ without whole.request (asked_of calls)
      → owed_of (took whole ∷ calls) ≡ owed_of calls → ((p : ℕ) → is_taken p (took whole ∷ calls) ≡ is_taken p calls)
      → Counts (after_end given) (took whole ∷ calls)
  counts-ended some at asked owed taken =
      let first : Some c.oldest_asked ≡ Some whole.request = sym (least-row c.oldest_asked given.asked _ c.asked some) ∙ at in
      let oldest : c.oldest_asked ≡ whole.request = cc in
      record {
        oldest_asked = suc c.oldest_asked;
        asked = asked ∙ ap (λ (p : ℕ). without p (asked_of calls)) (sym oldest) ∙ without-row c.oldest_asked given.asked _ c.asked some;
        requested = omega (arith, c.requested);
        first_asked = omega (arith, c.first_asked);
        oldest_owed = c.oldest_owed;
        owed = owed ∙ c.owed;
        taken = λ p. taken p ∙ c.taken p;
        first_owed = c.first_owed;
        answers = c.answers;
      }

  counts-requested : whole.kind ≡ Kind.Msg → IsNextTaken calls whole.request
      → Counts (after_taken given Kind.Msg) (took whole ∷ calls)
  counts-requested e next = record {
    oldest_asked = c.oldest_asked;
    asked = rw e c.asked;
    requested = c.requested;
    first_asked = c.first_asked;
    oldest_owed = c.oldest_owed;
    owed = rw e (ap (λ (p : ℕ). p ∷ owed_of calls) (next-taken next) ∙ ap (λ (ns : List ℕ). (c.oldest_owed + given.owed) ∷ ns) c.owed
        ∙ sym (run-more c.oldest_owed given.owed));
    taken = λ p. rw e (one-more-taken p whole.request (c.oldest_owed + given.owed) _ (next-taken next) (c.taken p)
        ∙ ap (nat_lt p) (omega arith));
    first_owed = c.first_owed;
    answers = c.answers;
  }

  pub counts-took : (kind : Kind) → whole.kind ≡ kind → (is_msg kind ≡ false → 0 < given.asked) → MayTakeEnd calls kind whole.request
      → Counts (after_taken given kind) (took whole ∷ calls)
  counts-took Kind.Msg e some may = counts-requested e may.next
  counts-took Kind.Rpy e some may =
      counts-ended (some refl) may (rw e refl) (rw e refl) (λ p. rw e refl)
  counts-took Kind.Err e some may =
      counts-ended (some refl) may (rw e refl) (rw e refl) (λ p. rw e refl)
  counts-took Kind.Nul e some may =
      counts-ended (some refl) may (rw e refl) (rw e refl) (λ p. rw e refl)
  counts-took Kind.Ans e some may = record {
    oldest_asked = c.oldest_asked;
    asked = rw e c.asked;
    requested = c.requested;
    first_asked = c.first_asked;
    oldest_owed = c.oldest_owed;
    owed = rw e c.owed;
    taken = λ p. rw e (c.taken p);
    first_owed = c.first_owed;
    answers = c.answers;
  }

-- ---- before any call

pub counts-none : Counts (record { asked = 0; first_asked = 0; owed = 0; first_owed = 0; answers = None }) []
counts-none = record {
  oldest_asked = 0;
  asked = refl;
  requested = refl;
  first_asked = refl;
  oldest_owed = 0;
  owed = refl;
  taken = λ p. grind (arith, nat_tests);
  first_owed = refl;
  answers = refl;
}

pub counts-opening : Counts (record { asked = 1; first_asked = 0; owed = 1; first_owed = 0; answers = None }) opening_calls
counts-opening = record {
  oldest_asked = 0;
  asked = refl;
  requested = refl;
  first_asked = refl;
  oldest_owed = 0;
  owed = refl;
  taken = λ p. grind (arith, nat_tests);
  first_owed = refl;
  answers = refl;
}

-- ---- by the kind of a call

module _ (given : Given) where
  pub reply-given : (kind : Kind) → (kind ≡ Kind.Rpy) ⊎ (kind ≡ Kind.Err) ⊎ (kind ≡ Kind.Nul) → after_reply given ≡ after_given given kind
  reply-given kind = ⊎_elim (λ e. rw e refl) (⊎_elim (λ e. rw e refl) (λ e. rw e refl))

  pub end-taken : (kind : Kind) → (kind ≡ Kind.Rpy) ⊎ (kind ≡ Kind.Err) ⊎ (kind ≡ Kind.Nul) → after_end given ≡ after_taken given kind
  end-taken kind = ⊎_elim (λ e. rw e refl) (⊎_elim (λ e. rw e refl) (λ e. rw e refl))

  asked-some : (kind : Kind) (position : ℕ) → MayTakeOf given kind position → is_msg kind ≡ false → 0 < given.asked
  asked-some Kind.Msg position may e = cc
  asked-some Kind.Rpy position may e = may.0
  asked-some Kind.Err position may e = may.0
  asked-some Kind.Ans position may e = may.0
  asked-some Kind.Nul position may e = may.0

  pub counts-taken : (calls : List Call) (tag whole : Tag) → MayTake given tag → Counts given calls → MayTakeEnd calls whole.kind whole.request
      → modulo_2_64 whole ≡ tag → Counts (after_taken given tag.kind) (took whole ∷ calls)
  counts-taken calls tag whole may c end same =
      let kind : whole.kind ≡ tag.kind = ap (λ (t : Tag). t.kind) same in
      counts-took given calls c whole tag.kind kind (asked-some tag.kind tag.request may)
      (subst (λ (k : Kind). MayTakeEnd calls k whole.request) kind end)

-- ---- what may be taken

module _ (given : Given) (calls : List Call) (c : Counts given calls) (whole : Tag) where
  some-asked : (n : ℕ) (ns : List ℕ) → ns ≡ run c.oldest_asked n → least ns ≡ Some whole.request → 0 < n
  some-asked zero ns is at = (let none : None ≡ Some whole.request = sym (ap least is) ∙ at in cc)
  some-asked (suc n) ns is at = omega arith

  may-end : least (asked_of calls) ≡ Some whole.request → (0 < given.asked) × (whole.request % 2 ^ 64 ≡ given.first_asked)
  may-end at =
      let some = some-asked given.asked (asked_of calls) c.asked at in
      let first : Some c.oldest_asked ≡ Some whole.request = sym (least-row c.oldest_asked given.asked _ c.asked some) ∙ at in
      let oldest : c.oldest_asked ≡ whole.request = cc in
      (some, omega (arith, oldest, c.first_asked))

  may-request : MayTakeRequest calls whole.request
      → (whole.request % 2 ^ 64 ≡ (given.first_owed + given.owed) % 2 ^ 64) × (given.owed < 1024)
  may-request may =
      let place = next-taken given calls c whole may.next in
      let owed : length (owed_of calls) ≡ given.owed = ap (length {A = ℕ}) c.owed ∙ length-run c.oldest_owed given.owed in
      (omega (arith, place, c.first_owed), omega (arith, owed, may.few))

  may-by : (kind : Kind) → MayTakeEnd calls kind whole.request → MayTakeOf given kind (whole.request % 2 ^ 64)
  may-by Kind.Msg may = may-request may
  may-by Kind.Rpy may = may-end may
  may-by Kind.Err may = may-end may
  may-by Kind.Ans may = may-end may
  may-by Kind.Nul may = may-end may

pub may_take : (given : Given) (calls : List Call) (whole : Tag) → Counts given calls → MayTakeEnd calls whole.kind whole.request
    → MayTake given (modulo_2_64 whole)
may_take given calls whole c may = may-by given calls c whole whole.kind may
