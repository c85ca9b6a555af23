-- The first rule that a header breaks by what is kept is the first that it breaks over the history.
use Rattle.std.proofs.Common.{◌≡◌, ℕ, ◌==◌, nat_lt, nat_le, Bool, true, false, not, ◌&&◌, if◌then◌else◌, List, [], length, take, Option, Some, None, option_map, refl, sym, ap, ◌∙◌}
use Rattle.std.specs.List.{list_any, find}
use Rattle.std.specs.Option.{option_map_or}
use Rattle.std.proofs.lemmas.Bool.{eqb-true, not-false, and_parts}
use Rattle.std.proofs.lemmas.List.{length-map}
use Rattle.beep_frame.specs.declared.head.Head.{Head}
use Rattle.beep_frame.specs.declared.kind.Kind.{Kind}
use Rattle.beep_frame.specs.declared.rule.Rule.{Rule}
use Rattle.beep_history.specs.declared.journal.Side.{Side}
use Rattle.beep_history.specs.declared.limits.TheConstants.{MAX_REQUESTS, MAX_ANSWERS}
use Rattle.beep_frame.specs.Frame.{is_ans, is_nul, is_reply}
use Rattle.beep_history.specs.Journal.{Item, other}
use Rattle.beep_history.specs.Marks.{first, Request, requests, latest, is_whole, reply, is_answered, waiting, named, reply_so_far, unfinished}
use Rattle.beep_history.specs.Broken as broken
use Rattle.beep_history.specs.Broken.{exchange_rule, KeepsExchangeRules, breaks_never_asked, breaks_already_answered, breaks_out_of_turn}
use Rattle.beep_history.proofs.KeptLemmas.{after-true}
use Rattle.beep_history.proofs.ListsLemmas.{find-take}
use Rattle.beep_history.proofs.SoundLemmas.{Sound, some-of, at-some}
use Rattle.beep_history.proofs.PassedLemmas.{sound}
use Rattle.beep_exchange.specs.Kept as kept
use Rattle.beep_exchange.specs.Kept.{is_current, judged}
use Rattle.beep_exchange.specs.Exchange.{current, answer_of, kept_of}
use Rattle.beep_exchange.proofs.AskerLemmas.{current-is, current-place, early-place, answered-place, turn-place}
use Rattle.beep_exchange.proofs.RowsLemmas.{and-cong, or-cong, changes-row, use-row, never-row, has-answers, empty-row}

same-rest : (rule : Rule) (b : Bool) (x y : Option Rule) → (b ≡ false → x ≡ y) → (if b then Some rule else x) ≡ (if b then Some rule else y)
same-rest rule true x y rest = refl
same-rest rule false x y rest = rest refl

cong : (rule : Rule) (a b : Bool) (x y : Option Rule) → a ≡ b → (b ≡ false → x ≡ y) → (if a then Some rule else x) ≡ (if b then Some rule else y)
cong rule a b x y e rest = rw e (same-rest rule b x y rest)

nul-reply : (kind : Kind) → is_nul kind ≡ true → is_reply kind ≡ true
nul-reply Kind.Msg e = cc
nul-reply Kind.Rpy e = refl
nul-reply Kind.Err e = refl
nul-reply Kind.Ans e = refl
nul-reply Kind.Nul e = refl

pub ans-reply : (kind : Kind) → is_ans kind ≡ true → is_reply kind ≡ true
ans-reply Kind.Msg e = cc
ans-reply Kind.Rpy e = refl
ans-reply Kind.Err e = refl
ans-reply Kind.Ans e = refl
ans-reply Kind.Nul e = refl

if-cong : (c a x y : Bool) → x ≡ y → (if c then a else x) ≡ (if c then a else y)
if-cong c a x y e = rw e

through : (g : Kind → Bool) (o : Option Head)
    → option_map_or g (option_map (λ (frame : Head). frame.kind) o) false ≡ option_map_or (λ (frame : Head). g frame.kind) o false
through g None = refl
through g (Some frame) = refl

and-both : (a x y z w : Bool) → (a ≡ true → x ≡ y) → (a ≡ true → z ≡ w) → ((a && x) && z) ≡ ((a && y) && w)
and-both true x y z w e f = rw (e refl, f refl)
and-both false x y z w e f = refl

module _ (side : Side) (past : List Item) (head : Head) (s : Sound (other side) past) where
  -- a reply names a request that was asked
  found : is_reply head.kind ≡ true → breaks_never_asked side past head ≡ false → (r : Request) × (latest (other side) head.msgno past ≡ Some r)
  found r e =
      let some = some-of (find (λ (x : Request). x.number == head.msgno) (take MAX_REQUESTS (requests (other side) past))) (after-true _ _ r e) in
      (some.0, find-take (λ (x : Request). x.number == head.msgno) MAX_REQUESTS (requests (other side) past) some.0 some.1)

  early-row : is_reply head.kind ≡ true → breaks_never_asked side past head ≡ false
      → kept.is_early (kept_of (other side) past) head.msgno
      ≡ option_map_or (λ (x : Request). not (is_whole (other side) x.position past)) (named side past head) false
  early-row r e =
      let f = found r e in
      sym (early-place (other side) past s head.msgno f.0 f.1)
      ∙ sym (at-some (λ (x : Request). not (is_whole (other side) x.position past)) (named side past head) f.0 false f.1)

  already-row : is_reply head.kind ≡ true → breaks_never_asked side past head ≡ false
      → (not (is_current (kept_of (other side) past) head.msgno)
      && not (kept.has_number head.msgno (take (length (waiting (other side) past)) (kept_of (other side) past).numbers)))
      ≡ option_map_or (λ (x : Request). is_answered (other side) x.position past) (named side past head) false
  already-row r e =
      let f = found r e in
      sym (answered-place (other side) past s head.msgno f.0 f.1)
      ∙ sym (at-some (λ (x : Request). is_answered (other side) x.position past) (named side past head) f.0 false f.1)

  turn-row : is_reply head.kind ≡ true → breaks_never_asked side past head ≡ false → breaks_already_answered side past head ≡ false
      → not (is_current (kept_of (other side) past) head.msgno)
      ≡ option_map_or (λ (x : Request). list_any (λ (e : Request). nat_lt e.position x.position) (waiting (other side) past)) (named side past head) false
  turn-row r e a =
      let f = found r e in
      let fresh : is_answered (other side) f.0.position past ≡ false =
      sym (at-some (λ (x : Request). is_answered (other side) x.position past) (named side past head) f.0 false f.1) ∙ after-true _ _ r a in
      sym (turn-place (other side) past s head.msgno f.0 f.1 fresh)
      ∙ sym (at-some (λ (x : Request). list_any (λ (e : Request). nat_lt e.position x.position) (waiting (other side) past)) (named side past head) f.0 false f.1)

  -- the reply that goes on is the one to the oldest request that waits
  pub frames-row : is_reply head.kind ≡ true → breaks_never_asked side past head ≡ false → breaks_already_answered side past head ≡ false
      → breaks_out_of_turn side past head ≡ false → reply_so_far side past head ≡ current (other side) past
  frames-row r e a t =
      let f = found r e in
      let here : is_current (kept_of (other side) past) head.msgno ≡ true = not-false _ (turn-row r e a ∙ after-true _ _ r t) in
      let place : f.0.position ≡ s.oldest = eqb-true _ _ (sym (current-place (other side) past s head.msgno f.0 f.1) ∙ here) in
      at-some (λ (x : Request). reply (other side) x.position past) (named side past head) f.0 [] f.1
      ∙ ap (λ (p : ℕ). reply (other side) p past) place
      ∙ sym (current-is (other side) past s)

  -- ---- the rules, in their order

  kind_changed-is : kept.breaks_kind_changed (kept_of side past) (kept_of (other side) past) head ≡ broken.breaks_kind_changed side past head
  kind_changed-is = if-cong (is_nul head.kind) _ _ _
      (or-cong _ _ _ (and-cong (is_reply head.kind) _ _ (λ r. changes-row (other side) past s head.msgno head.kind)))

  never_asked-is : kept.breaks_never_asked (kept_of (other side) past) head ≡ breaks_never_asked side past head
  never_asked-is = and-cong (is_reply head.kind) _ _ (λ r. never-row (other side) past s head.msgno)

  module _ (asked : breaks_never_asked side past head ≡ false) where
    early_reply-is : kept.breaks_early_reply (kept_of (other side) past) head ≡ broken.breaks_early_reply side past head
    early_reply-is = and-cong (is_reply head.kind) _ _ (λ r. early-row r asked)

    already_answered-is : kept.breaks_already_answered (kept_of (other side) past) head ≡ breaks_already_answered side past head
    already_answered-is = and-cong (is_reply head.kind) _ _ (λ r. already-row r asked)

    module _ (fresh : breaks_already_answered side past head ≡ false) where
      out_of_turn-is : kept.breaks_out_of_turn (kept_of (other side) past) head ≡ breaks_out_of_turn side past head
      out_of_turn-is = and-cong (is_reply head.kind) _ _ (λ r. turn-row r asked fresh)

      module _ (turn : breaks_out_of_turn side past head ≡ false) where
        nul_not_after_ans-is : kept.breaks_nul_not_after_ans (kept_of (other side) past) head ≡ broken.breaks_nul_not_after_ans side past head
        nul_not_after_ans-is = and-cong (is_nul head.kind) _ _ (λ n.
            through (λ (kind : Kind). not (is_ans kind)) (first (current (other side) past))
            ∙ ap (λ (frames : List Head). option_map_or (λ (frame : Head). not (is_ans frame.kind)) (first frames) false)
            (sym (frames-row (nul-reply head.kind n) asked fresh turn)))

        nul_too_soon-is : kept.breaks_nul_too_soon (kept_of (other side) past) head ≡ broken.breaks_nul_too_soon side past head
        nul_too_soon-is = and-cong (is_nul head.kind) _ _ (λ n.
            ap (nat_lt 0) (length-map (unfinished (current (other side) past)) (answer_of (current (other side) past)))
            ∙ ap (λ (frames : List Head). nat_lt 0 (length (unfinished frames))) (sym (frames-row (nul-reply head.kind n) asked fresh turn)))

        empty_answer-is : kept.breaks_empty_answer (kept_of (other side) past) head ≡ broken.breaks_empty_answer side past head
        empty_answer-is = and-cong (is_ans head.kind && not head.more) _ _ (λ c.
            let answer : is_ans head.kind ≡ true = (and_parts _ _ c).0 in
            empty-row head.size head.ansno (current (other side) past)
            ∙ rw (answer, frames-row (ans-reply head.kind answer) asked fresh turn) refl)

        too_many_answers-is : kept.breaks_too_many_answers (kept_of (other side) past) head ≡ broken.breaks_too_many_answers side past head
        too_many_answers-is = and-both (is_ans head.kind) _ _ _ _
            (λ a. ap not (has-answers (current (other side) past) head.ansno (unfinished (current (other side) past)))
            ∙ ap (λ (frames : List Head). not (list_any (λ (n : ℕ). n == head.ansno) (unfinished frames))) (sym (frames-row (ans-reply head.kind a) asked fresh turn)))
            (λ a. ap (nat_le MAX_ANSWERS) (length-map (unfinished (current (other side) past)) (answer_of (current (other side) past)))
            ∙ ap (λ (frames : List Head). nat_le MAX_ANSWERS (length (unfinished frames))) (sym (frames-row (ans-reply head.kind a) asked fresh turn)))

number_in_use-is : (side : Side) (past : List Item) (head : Head) → Sound side past
    → kept.breaks_number_in_use (kept_of side past) head ≡ broken.breaks_number_in_use side past head
number_in_use-is side past head m = and-cong (kept.begins (kept_of side past) head) _ _ (λ b. use-row side past m head.msgno)

pub judged-is : (side : Side) (past : List Item) (head : Head) → KeepsExchangeRules past
    → judged (kept_of side past) (kept_of (other side) past) head ≡ exchange_rule side past head
unfolding judged exchange_rule
judged-is side past head u =
    let m = sound side past u in
    let s = sound (other side) past u in
    cong Rule.NulShape (broken.breaks_nul_shape head) (broken.breaks_nul_shape head) _ _ refl (λ e1.
    cong Rule.NotContinued (broken.breaks_not_continued side past head) (broken.breaks_not_continued side past head) _ _ refl (λ e2.
    cong Rule.KindChanged _ _ _ _ (kind_changed-is side past head s) (λ e3.
    cong Rule.NumberInUse _ _ _ _ (number_in_use-is side past head m) (λ e4.
    cong Rule.NeverAsked _ _ _ _ (never_asked-is side past head s) (λ asked.
    cong Rule.EarlyReply _ _ _ _ (early_reply-is side past head s asked) (λ e6.
    cong Rule.AlreadyAnswered _ _ _ _ (already_answered-is side past head s asked) (λ fresh.
    cong Rule.OutOfTurn _ _ _ _ (out_of_turn-is side past head s asked fresh) (λ turn.
    cong Rule.NulNotAfterAns _ _ _ _ (nul_not_after_ans-is side past head s asked fresh turn) (λ e9.
    cong Rule.NulTooSoon _ _ _ _ (nul_too_soon-is side past head s asked fresh turn) (λ e10.
    cong Rule.EmptyAnswer _ _ _ _ (empty_answer-is side past head s asked fresh turn) (λ e11.
    cong Rule.TooManyRequests (broken.breaks_too_many_requests side past head) (broken.breaks_too_many_requests side past head) _ _ refl (λ e12.
    cong Rule.TooManyAnswers _ _ _ _ (too_many_answers-is side past head s asked fresh turn) (λ e13. refl)))))))))))))
