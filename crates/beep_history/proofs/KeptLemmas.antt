-- What a header keeps where it breaks no rule of the exchange: each test is false.
use Rattle.std.proofs.Common.{◌≡◌, ℕ, ◌==◌, nat_lt, nat_le, Bool, true, false, not, ◌&&◌, ◌||◌, if◌then◌else◌, List, [], length, take, Option, Some, None, refl}
use Rattle.std.specs.List.{list_any, find}
use Rattle.std.specs.Option.{option_map_or, is_none}
use Rattle.beep_frame.specs.declared.head.Head.{Head}
use Rattle.beep_frame.specs.declared.rule.Rule.{Rule}
use Rattle.beep_history.specs.declared.journal.Side.{Side}
use Rattle.beep_history.specs.declared.limits.TheConstants.{MAX_REQUESTS, MAX_ANSWERS}
use Rattle.beep_frame.specs.Frame.{is_ans, is_nul, is_reply, same_kind}
use Rattle.beep_history.specs.Journal.{Item, other}
use Rattle.beep_history.specs.Marks.{first, Request, requests, latest, is_whole, reply, is_answered, waiting, unfinished, begins_answer}
use Rattle.beep_history.specs.Broken.{exchange_rule, breaks_nul_shape, breaks_not_continued, breaks_kind_changed, breaks_number_in_use, breaks_never_asked, breaks_early_reply, breaks_already_answered, breaks_out_of_turn, breaks_nul_not_after_ans, breaks_nul_too_soon, breaks_empty_answer, breaks_too_many_requests, breaks_too_many_answers}

-- each rule of the exchange is kept
pub record Kept (side : Side) (past : List Item) (head : Head) : Type 0 where
  pub nul_shape : breaks_nul_shape head ≡ false
  pub not_continued : breaks_not_continued side past head ≡ false
  pub kind_changed : breaks_kind_changed side past head ≡ false
  pub number_in_use : breaks_number_in_use side past head ≡ false
  pub never_asked : breaks_never_asked side past head ≡ false
  pub early_reply : breaks_early_reply side past head ≡ false
  pub already_answered : breaks_already_answered side past head ≡ false
  pub out_of_turn : breaks_out_of_turn side past head ≡ false
  pub nul_not_after_ans : breaks_nul_not_after_ans side past head ≡ false
  pub nul_too_soon : breaks_nul_too_soon side past head ≡ false
  pub empty_answer : breaks_empty_answer side past head ≡ false
  pub too_many_requests : breaks_too_many_requests side past head ≡ false
  pub too_many_answers : breaks_too_many_answers side past head ≡ false

pub pass : (rule : Rule) (holds : Bool) (others : Option Rule) → (if holds then Some rule else others) ≡ None → (holds ≡ false) × (others ≡ None)
pass rule true others e = cc
pass rule false others e = (refl, e)

pub kept : (side : Side) (past : List Item) (head : Head) → exchange_rule side past head ≡ None → Kept side past head
unfolding exchange_rule
kept side past head e =
    let a = pass _ _ _ e in
    let b = pass _ _ _ a.1 in
    let c = pass _ _ _ b.1 in
    let d = pass _ _ _ c.1 in
    let f = pass _ _ _ d.1 in
    let g = pass _ _ _ f.1 in
    let h = pass _ _ _ g.1 in
    let i = pass _ _ _ h.1 in
    let j = pass _ _ _ i.1 in
    let k = pass _ _ _ j.1 in
    let l = pass _ _ _ k.1 in
    let m = pass _ _ _ l.1 in
    let n = pass _ _ _ m.1 in
    record {
      nul_shape = a.0;
      not_continued = b.0;
      kind_changed = c.0;
      number_in_use = d.0;
      never_asked = f.0;
      early_reply = g.0;
      already_answered = h.0;
      out_of_turn = i.0;
      nul_not_after_ans = j.0;
      nul_too_soon = k.0;
      empty_answer = l.0;
      too_many_requests = m.0;
      too_many_answers = n.0;
    }

-- ---- a reply, by the side whose request it names

-- the frames so far of the reply to the latest request of this number
abbrev pub so_far : Side → ℕ → List Item → List Head
so_far asker number past = option_map_or (λ request. reply asker request.position past) (latest asker number past) []

-- what a reply keeps, in terms of the requests of the side that asked
pub record KeptReply (asker : Side) (past : List Item) (head : Head) : Type 0 where
  pub asked : is_none (find (λ (request : Request). request.number == head.msgno) (take MAX_REQUESTS (requests asker past))) ≡ false
  pub whole : option_map_or (λ (request : Request). not (is_whole asker request.position past)) (latest asker head.msgno past) false ≡ false
  pub fresh : option_map_or (λ (request : Request). is_answered asker request.position past) (latest asker head.msgno past) false ≡ false
  pub turn : option_map_or (λ (request : Request). list_any (λ earlier. nat_lt earlier.position request.position) (waiting asker past)) (latest asker head.msgno past) false ≡ false
  pub same : is_nul head.kind ≡ false → option_map_or
      (λ (request : Request). not (is_answered asker request.position past)
      && list_any (λ frame. not (same_kind frame.kind head.kind)) (reply asker request.position past)) (latest asker head.msgno past) false ≡ false
  pub after : is_nul head.kind ≡ true → option_map_or (λ before. not (is_ans before.kind)) (first (so_far asker head.msgno past)) false ≡ false
  pub complete : is_nul head.kind ≡ true → nat_lt 0 (length (unfinished (so_far asker head.msgno past))) ≡ false
  pub room : (begins_answer (so_far asker head.msgno past) head && nat_le MAX_ANSWERS (length (unfinished (so_far asker head.msgno past)))) ≡ false
  pub alone : is_nul head.kind ≡ true → head.more ≡ false

pub after-true : (a b : Bool) → a ≡ true → (a && b) ≡ false → b ≡ false
after-true true b t e = e
after-true false b t e = cc

pub or-left : (a b : Bool) → (a || b) ≡ false → a ≡ false
or-left true b e = e
or-left false b e = refl

pub or-right : (a b : Bool) → (a || b) ≡ false → b ≡ false
or-right true b e = cc
or-right false b e = e

at-false : (a x y : Bool) → a ≡ false → (if a then x else y) ≡ false → y ≡ false
at-false true x y f e = cc
at-false false x y f e = e

pub kept_reply : (asker : Side) (past : List Item) (head : Head) → Kept (other asker) past head → is_reply head.kind ≡ true
    → KeptReply asker past head
kept_reply Side.Received past head k r = record {
  asked = after-true _ _ r k.never_asked;
  whole = after-true _ _ r k.early_reply;
  fresh = after-true _ _ r k.already_answered;
  turn = after-true _ _ r k.out_of_turn;
  same = λ n. after-true _ _ r (or-right _ _ (at-false _ _ _ n k.kind_changed));
  after = λ n. after-true _ _ n k.nul_not_after_ans;
  complete = λ n. after-true _ _ n k.nul_too_soon;
  room = k.too_many_answers;
  alone = λ n. or-left _ _ (after-true _ _ n k.nul_shape);
}
kept_reply Side.Sent past head k r = record {
  asked = after-true _ _ r k.never_asked;
  whole = after-true _ _ r k.early_reply;
  fresh = after-true _ _ r k.already_answered;
  turn = after-true _ _ r k.out_of_turn;
  same = λ n. after-true _ _ r (or-right _ _ (at-false _ _ _ n k.kind_changed));
  after = λ n. after-true _ _ n k.nul_not_after_ans;
  complete = λ n. after-true _ _ n k.nul_too_soon;
  room = k.too_many_answers;
  alone = λ n. or-left _ _ (after-true _ _ n k.nul_shape);
}
