-- The next frame of the queue breaks no rule of the exchange.
use Rattle.std.proofs.Common.{◌≡◌, ℕ, zero, suc, ◌+◌, ◌-◌, ◌%◌, ◌^◌, ◌<◌, ◌≤◌, ◌==◌, nat_le, Bool, true, false, not, ◌&&◌, ◌||◌, if◌then◌else◌, List, [], ◌∷◌, length, take, Option, Some, None, refl, sym, arith, subst}
use Rattle.std.specs.Prelude.{slice_index}
use Rattle.std.specs.Option.{option_map_or}
use Rattle.std.proofs.lemmas.Bool.{false_from_ne_true, lt-ltb}
use Rattle.std.proofs.lemmas.Bool.Decides.{nat_tests}
use Rattle.beep_frame.specs.declared.head.Head.{Head}
use Rattle.beep_frame.specs.declared.kind.Kind.{Kind}
use Rattle.beep_frame.specs.declared.rule.Rule.{Rule}
use Rattle.beep_history.specs.declared.limits.TheConstants.{MAX_ANSWERS}
use Rattle.beep_frame.specs.Frame.{head_of, is_msg, is_ans, is_nul, is_reply, same_kind}
use Rattle.beep_history.specs.Marks.{first, goes_on}
use Rattle.beep_history.proofs.SoundLemmas.{IsApartFirst}
use Rattle.beep_history.proofs.AnswersLemmas.{has}
use Rattle.beep_exchange.specs.Kept.{Kept, begins, is_open, has_number, is_current, is_early, has_answer, judged, breaks_not_continued, goes_on_request, changes_message, changes_reply, breaks_number_in_use, breaks_too_many_requests}
use Rattle.beep_channel.specs.Fits.{AreBack, current, was_more, as_number}

-- ---- the frame before

-- it was complete, or there was none
module _ (mine : Kept) (head : Head) (complete : was_more mine ≡ false) where
  pub whole-continued : breaks_not_continued mine head ≡ false
  whole-continued = of mine.before complete
    where
      of : (before : Option Head) → option_map_or (λ (h : Head). h.more) before false ≡ false
          → option_map_or (λ (b : Head). b.more && not (b.msgno == head.msgno)) before false ≡ false
      of None e = refl
      of (Some b) e = rw e refl

  pub whole-message : changes_message mine head ≡ false
  whole-message = of mine.before complete
    where
      of : (before : Option Head) → option_map_or (λ (h : Head). h.more) before false ≡ false
          → option_map_or (λ (b : Head). goes_on head b && not (same_kind b.kind head.kind)) before false ≡ false
      of None e = refl
      of (Some b) e = rw e refl

  pub whole-request : goes_on_request mine head ≡ false
  whole-request = of mine.before complete
    where
      of : (before : Option Head) → option_map_or (λ (h : Head). h.more) before false ≡ false
          → option_map_or (λ (b : Head). goes_on head b && is_msg b.kind) before false ≡ false
      of None e = refl
      of (Some b) e = rw e refl

pub same-kind : (k : Kind) → same_kind k k ≡ true
same-kind Kind.Msg = refl
same-kind Kind.Rpy = refl
same-kind Kind.Err = refl
same-kind Kind.Ans = refl
same-kind Kind.Nul = refl

pub same-number : (n : ℕ) → (n == n) ≡ true
same-number n = grind (arith, nat_tests)

-- it was not, and the head goes on with it
module _ (mine : Kept) (head before : Head) (last : mine.before ≡ Some before) (more : before.more ≡ true)
    (kind : before.kind ≡ head.kind) (number : before.msgno ≡ head.msgno) where
  pub on-continued : breaks_not_continued mine head ≡ false
  on-continued = rw (last, more, number, same-number head.msgno) refl

  pub on-message : changes_message mine head ≡ false
  on-message = rw (last, more, number, same-number head.msgno, kind, same-kind head.kind) refl

  pub on-begins : is_msg head.kind ≡ true → begins mine head ≡ false
  on-begins m = rw (last, more, number, same-number head.msgno, kind, m) refl

-- ---- numbers

pub equal : (a b : ℕ) → (a == b) ≡ true → a ≡ b
equal a b h = grind (arith, nat_tests)

-- no number of the last ones is that of the next request
module _ (count : ℕ) where
  pub after-none : (back : ℕ) (ns : List ℕ) → 0 < back → back + length ns ≤ 2 ^ 31 → AreBack count back ns → has_number (count % 2 ^ 31) ns ≡ false
  after-none back [] p few b = refl
  after-none back (n ∷ ns) p few b =
      let few' : (back + 1) + length ns ≤ 2 ^ 31 = omega arith in
      let apart : (n == count % 2 ^ 31) ≡ false = not-that n back count p (omega arith) b.0 b.1 in
      rw (apart, after-none (back + 1) ns (omega arith) few' b.2) refl
    where
      not-that : (n back count : ℕ) → 0 < back → back < 2 ^ 31 → n < 2 ^ 31 → (n + back) % 2 ^ 31 ≡ count % 2 ^ 31 → (n == count % 2 ^ 31) ≡ false
      not-that n back count p q r e = false_from_ne_true _ (λ h. let same : n ≡ count % 2 ^ 31 = equal n _ h in absurd (omega (arith, same, e)))

  pub after-take : (w back : ℕ) (ns : List ℕ) → AreBack count back ns → AreBack count back (take w ns)
  after-take zero back ns b = tt
  after-take (suc w) back [] b = tt
  after-take (suc w) back (n ∷ ns) b = (b.0, b.1, after-take w (back + 1) ns b.2)

-- ---- the number of the oldest that waits

has-index : (i w : ℕ) (ns : List ℕ) → i < w → w ≤ length ns → has (slice_index ns i) (take w ns) ≡ true
has-index i zero ns p q = absurd (omega (arith, p))
has-index i (suc w) [] p q = absurd (omega (arith, q))
has-index zero (suc w) (n ∷ ns) p q = rw (same-number n) refl
has-index (suc i) (suc w) (n ∷ ns) p q =
    rw (has-index i w ns (omega (arith, p)) (omega (arith, q))) (or-true (n == slice_index ns i))
  where
    or-true : (b : Bool) → (b || true) ≡ true
    or-true true = refl
    or-true false = refl

-- the newest has another number than the oldest that waits
apart-current : (w : ℕ) (ns : List ℕ) → 2 ≤ w → w ≤ length ns → IsApartFirst w ns
    → option_map_or (λ (n : ℕ). n == slice_index ns (w - 1)) (first ns) false ≡ false
apart-current zero ns p q a = absurd (omega (arith, p))
apart-current (suc zero) ns p q a = absurd (omega (arith, p))
apart-current (suc (suc w)) [] p q a = refl
apart-current (suc (suc w)) (n ∷ ns) p q a =
    let place : suc (suc w) - 1 ≡ suc w = omega arith in
    rw place (false_from_ne_true _ (λ h. absurd (both (has n (take (suc w) ns)) a.0
    (subst (λ (m : ℕ). has m (take (suc w) ns) ≡ true) (sym (equal n _ h)) (has-index w (suc w) ns (omega arith) (omega (arith, q)))))))
  where
    both : (b : Bool) → b ≡ false → b ≡ true → ⊥
    both true e f = absurd (let g : true ≡ false = e in cc)
    both false e f = absurd (let g : false ≡ true = f in cc)

module _ (theirs : Kept) (kept : theirs.waiting ≤ length theirs.numbers) (apart : IsApartFirst theirs.waiting theirs.numbers)
    (demand : 1 + as_number (is_open theirs) ≤ theirs.waiting) where
  pub current-yes : is_current theirs (current theirs) ≡ true
  current-yes = rw (lt-ltb 0 theirs.waiting (omega arith), same-number (current theirs)) refl

  pub current-whole : is_early theirs (current theirs) ≡ false
  current-whole = of (is_open theirs) refl
    where
      of : (b : Bool) → is_open theirs ≡ b → (b && option_map_or (λ (n : ℕ). n == current theirs) (first theirs.numbers) false) ≡ false
      of false e = refl
      of true e = apart-current theirs.waiting theirs.numbers (let d : 1 + as_number true ≤ theirs.waiting = subst (λ (b : Bool). 1 + as_number b ≤ theirs.waiting) e demand in d) kept apart

-- ---- each kind

-- the head of the next frame, but for its channel and sequence number
module _ (mine theirs : Kept) (channel number seqno size ansno : ℕ) (more : Bool) where
  pub judged-msg : breaks_not_continued mine (head_of Kind.Msg channel number more seqno size ansno) ≡ false
      → changes_message mine (head_of Kind.Msg channel number more seqno size ansno) ≡ false
      → breaks_number_in_use mine (head_of Kind.Msg channel number more seqno size ansno) ≡ false
      → breaks_too_many_requests mine (head_of Kind.Msg channel number more seqno size ansno) ≡ false
      → judged mine theirs (head_of Kind.Msg channel number more seqno size ansno) ≡ None
  unfolding judged
  judged-msg a b c d = rw (a, b, c, d) refl

  pub judged-reply : (k : Kind) → is_reply k ≡ true → is_ans k ≡ false → is_nul k ≡ false
      → breaks_not_continued mine (head_of k channel number more seqno size ansno) ≡ false
      → changes_message mine (head_of k channel number more seqno size ansno) ≡ false
      → changes_reply theirs (head_of k channel number more seqno size ansno) ≡ false
      → is_current theirs number ≡ true → is_early theirs number ≡ false
      → judged mine theirs (head_of k channel number more seqno size ansno) ≡ None
  unfolding judged
  judged-reply Kind.Msg r p q a b c d e = cc
  judged-reply Kind.Rpy r p q a b c d e = rw (a, b, c, d, e) refl
  judged-reply Kind.Err r p q a b c d e = rw (a, b, c, d, e) refl
  judged-reply Kind.Ans r p q a b c d e = cc
  judged-reply Kind.Nul r p q a b c d e = cc

  pub judged-ans : breaks_not_continued mine (head_of Kind.Ans channel number more seqno size ansno) ≡ false
      → changes_message mine (head_of Kind.Ans channel number more seqno size ansno) ≡ false
      → changes_reply theirs (head_of Kind.Ans channel number more seqno size ansno) ≡ false
      → is_current theirs number ≡ true → is_early theirs number ≡ false
      → (size == 0) ≡ false → (not (has_answer ansno theirs.answers) && nat_le MAX_ANSWERS (length theirs.answers)) ≡ false
      → judged mine theirs (head_of Kind.Ans channel number more seqno size ansno) ≡ None
  unfolding judged
  judged-ans a b c d e f g = rw (a, b, c, d, e, f, g) (shut more)
    where
      shut : (m : Bool) → (if not m && false then Some Rule.EmptyAnswer else None) ≡ None
      shut true = refl
      shut false = refl

  pub judged-nul : more ≡ false → size ≡ 0
      → breaks_not_continued mine (head_of Kind.Nul channel number more seqno size ansno) ≡ false
      → goes_on_request mine (head_of Kind.Nul channel number more seqno size ansno) ≡ false
      → is_current theirs number ≡ true → is_early theirs number ≡ false
      → option_map_or (λ (k : Kind). not (is_ans k)) theirs.kind false ≡ false → theirs.answers ≡ []
      → judged mine theirs (head_of Kind.Nul channel number more seqno size ansno) ≡ None
  unfolding judged
  judged-nul m s a b c d e f = rw (m, s, a, b, c, d, e, f) refl
