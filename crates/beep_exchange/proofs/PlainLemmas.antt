-- An answer with octets breaks no rule, where it begins and may.
use Rattle.std.proofs.Common.{[], ◌∷◌, subst, ◌≡◌, ◌<◌, ◌==◌, nat_lt, nat_le, Bool, true, false, not, ◌&&◌, length, Option, Some, None, refl, sym, ap, ◌∙◌, arith}
use Rattle.std.specs.Option.{option_map_or}
use Rattle.std.proofs.lemmas.Bool.{and_parts}
use Rattle.std.proofs.lemmas.Bool.Decides.{nat_tests}
use Rattle.beep_frame.specs.declared.head.Head.{Head}
use Rattle.beep_frame.specs.declared.kind.Kind.{Kind}
use Rattle.beep_frame.specs.declared.rule.Rule.{Rule}
use Rattle.beep_frame.specs.Frame.{is_msg, is_ans, is_nul, is_reply, same_kind}
use Rattle.beep_history.specs.declared.limits.TheConstants.{MAX_ANSWERS}
use Rattle.beep_history.specs.Marks.{goes_on}
use Rattle.beep_history.specs.Broken.{first_of, breaks_nul_shape}
use Rattle.beep_exchange.specs.Kept.{Kept, is_open, is_current, is_plain, takes_answers, changes_message, changes_reply, breaks_not_continued, breaks_kind_changed, breaks_number_in_use, breaks_never_asked, breaks_early_reply, breaks_already_answered, breaks_out_of_turn, breaks_nul_not_after_ans, breaks_nul_too_soon, breaks_too_many_requests, breaks_empty_answer, breaks_too_many_answers, has_answer, judged}

ans-is : (kind : Kind) → is_ans kind ≡ true → kind ≡ Kind.Ans
ans-is Kind.Msg e = cc
ans-is Kind.Rpy e = cc
ans-is Kind.Err e = cc
ans-is Kind.Ans e = refl
ans-is Kind.Nul e = cc

not-true : (b : Bool) → not b ≡ true → b ≡ false
not-true true e = cc
not-true false e = refl

and-none : (b c : Bool) → b ≡ false → (b && c) ≡ false
and-none b c e = rw e refl

-- a test of the frame before that asks whether its message goes on
before-ended : (before : Option Head) (test : Head → Bool) → option_map_or (λ b. b.more) before false ≡ false
    → ((b : Head) → b.more ≡ false → test b ≡ false) → option_map_or test before false ≡ false
before-ended None test ended each = refl
before-ended (Some b) test ended each = each b ended

kind-stays : (kind : Option Kind) → option_map_or is_ans kind true ≡ true → option_map_or (λ k. not (same_kind k Kind.Ans)) kind false ≡ false
kind-stays None e = refl
kind-stays (Some Kind.Msg) e = cc
kind-stays (Some Kind.Rpy) e = cc
kind-stays (Some Kind.Err) e = cc
kind-stays (Some Kind.Ans) e = refl
kind-stays (Some Kind.Nul) e = cc

and-false : (b : Bool) → (b && false) ≡ false
and-false true = refl
and-false false = refl

none-holds : (a b c d e f g h i j k l m : Bool) → a ≡ false → b ≡ false → c ≡ false → d ≡ false → e ≡ false → f ≡ false → g ≡ false → h ≡ false → i ≡ false
    → j ≡ false → k ≡ false → l ≡ false → m ≡ false
    → first_of ((Rule.NulShape, a) ∷ (Rule.NotContinued, b) ∷ (Rule.KindChanged, c) ∷ (Rule.NumberInUse, d) ∷ (Rule.NeverAsked, e) ∷ (Rule.EarlyReply, f)
    ∷ (Rule.AlreadyAnswered, g) ∷ (Rule.OutOfTurn, h) ∷ (Rule.NulNotAfterAns, i) ∷ (Rule.NulTooSoon, j) ∷ (Rule.EmptyAnswer, k) ∷ (Rule.TooManyRequests, l)
    ∷ (Rule.TooManyAnswers, m) ∷ []) ≡ None
none-holds a b c d e f g h i j k l m na nb nc nd ne nf ng nh ni nj nk nl nm = rw (na, nb, nc, nd, ne, nf, ng, nh, ni, nj, nk, nl, nm) refl

module _ (mine theirs : Kept) (head : Head) (ans : head.kind ≡ Kind.Ans) (some : 0 < head.size) (ended : option_map_or (λ b. b.more) mine.before false ≡ false)
    (current : is_current theirs head.msgno ≡ true) (few : length theirs.answers < MAX_ANSWERS) (shut : is_open theirs ≡ false)
    (kind : option_map_or is_ans theirs.kind true ≡ true) where
  continued : breaks_not_continued mine head ≡ false
  continued = before-ended mine.before (λ b. b.more && not (b.msgno == head.msgno)) ended (λ b e. and-none b.more (not (b.msgno == head.msgno)) e)

  message : changes_message mine head ≡ false
  message = before-ended mine.before (λ b. goes_on head b && not (same_kind b.kind head.kind)) ended (λ b e. rw e refl)

  reply : changes_reply theirs head ≡ false
  reply =
      let stays : option_map_or (λ k. not (same_kind k head.kind)) theirs.kind false ≡ false =
      subst (λ x. option_map_or (λ k. not (same_kind k x)) theirs.kind false ≡ false) (sym ans) (kind-stays theirs.kind kind) in
      ap (λ b. is_current theirs head.msgno && b) stays ∙ and-false (is_current theirs head.msgno)

  changed : breaks_kind_changed mine theirs head ≡ false
  changed = rw (message, reply, ap is_nul ans, ap is_reply ans) refl

  sized : (head.size == 0) ≡ false
  sized = grind (arith, nat_tests, some)

  full : nat_le MAX_ANSWERS (length theirs.answers) ≡ false
  full = grind (arith, nat_tests, few)

  plain : judged mine theirs head ≡ None
  unfolding judged
  plain =
      none-holds (breaks_nul_shape head) (breaks_not_continued mine head) (breaks_kind_changed mine theirs head) (breaks_number_in_use mine head)
      (breaks_never_asked theirs head) (breaks_early_reply theirs head) (breaks_already_answered theirs head) (breaks_out_of_turn theirs head)
      (breaks_nul_not_after_ans theirs head) (breaks_nul_too_soon theirs head) (breaks_empty_answer theirs head) (breaks_too_many_requests mine head)
      (breaks_too_many_answers theirs head) (rw (ap is_nul ans) refl) continued changed (rw (ap is_msg ans) refl) (rw (current, ap is_reply ans) refl)
      (rw (shut, ap is_reply ans) refl) (rw (current, ap is_reply ans) refl) (rw (current, ap is_reply ans) refl) (rw (ap is_nul ans) refl) (rw (ap is_nul ans) refl)
      (rw sized (and-false (is_ans head.kind && not head.more))) (rw (ap is_msg ans) refl) (rw full (and-false (is_ans head.kind && not (has_answer head.ansno theirs.answers))))

-- such an answer breaks no rule
pub judged-plain : (mine theirs : Kept) (head : Head) → is_plain mine head ≡ true → takes_answers theirs head ≡ true → judged mine theirs head ≡ None
judged-plain mine theirs head p t =
    let p1 = and_parts (is_ans head.kind) _ p in
    let p2 = and_parts (nat_lt 0 head.size) _ p1.1 in
    let t1 = and_parts (is_current theirs head.msgno) _ t in
    let t2 = and_parts (nat_lt (length theirs.answers) MAX_ANSWERS) _ t1.1 in
    let t3 = and_parts (not (is_open theirs)) _ t2.1 in
    let sized : nat_lt 0 head.size ≡ true = p2.0 in
    let few : nat_lt (length theirs.answers) MAX_ANSWERS ≡ true = t2.0 in
    let some : 0 < head.size = grind (arith, nat_tests, sized) in
    let fewer : length theirs.answers < MAX_ANSWERS = grind (arith, nat_tests, few) in
    plain mine theirs head (ans-is head.kind p1.0) some (not-true _ p2.1) t1.0 fewer (not-true _ t3.0) t3.1
