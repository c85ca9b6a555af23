-- What a header keeps where it breaks no rule of one life.
use Rattle.std.proofs.Common.{◌≡◌, ℕ, Bool, true, false, if◌then◌else◌, List, Option, Some, None, refl}
use Rattle.beep_frame.specs.declared.head.Head.{Head}
use Rattle.beep_frame.specs.declared.rule.Rule.{Rule}
use Rattle.beep_history.specs.declared.journal.Side.{Side}
use Rattle.beep_history.specs.Journal.{Item}
use Rattle.beep_history.specs.Broken.{broken_within, exchange_rule, breaks_sequence, breaks_long, breaks_window}
use Rattle.beep_history.proofs.KeptLemmas.{Kept, pass}

pub record AllKept (edge : ℕ) (side : Side) (past : List Item) (head : Head) : Type 0 where
  pub shape : Kept side past head
  pub sequence : breaks_sequence side past head ≡ false
  pub long : breaks_long side past head ≡ false
  pub window : breaks_window edge side past head ≡ false

pub all_kept : (edge : ℕ) (side : Side) (past : List Item) (head : Head) → broken_within edge side past head ≡ None → AllKept edge side past head
unfolding broken_within
all_kept edge side past head e =
    let a = pass _ _ _ e in
    let b = pass _ _ _ a.1 in
    let c = pass _ _ _ b.1 in
    let d = pass _ _ _ c.1 in
    let f = pass _ _ _ d.1 in
    let g = pass _ _ _ f.1 in
    let h = pass _ _ _ g.1 in
    let i = pass _ _ _ h.1 in
    let j = pass _ _ _ i.1 in
    let k = pass _ _ _ j.1 in
    let s = pass _ _ _ k.1 in
    let o = pass _ _ _ s.1 in
    let w = pass _ _ _ o.1 in
    let l = pass _ _ _ w.1 in
    let m = pass _ _ _ l.1 in
    let n = pass _ _ _ m.1 in
    record {
      shape = record {
        nul_shape = a.0;
        not_continued = b.0;
        kind_changed = c.0;
        number_in_use = d.0;
        never_asked = f.0;
        early_reply = g.0;
        already_answered = h.0;
        out_of_turn = i.0;
        nul_not_after_ans = j.0;
        nul_too_soon = k.0;
        empty_answer = l.0;
        too_many_requests = m.0;
        too_many_answers = n.0;
      };
      sequence = s.0;
      long = o.0;
      window = w.0;
    }

skip : (rule : Rule) (holds : Bool) (others : Option Rule) → holds ≡ false → others ≡ None → (if holds then Some rule else others) ≡ None
skip rule true others h o = cc
skip rule false others h o = o

-- and the other way
pub none_broken : (edge : ℕ) (side : Side) (past : List Item) (head : Head) → AllKept edge side past head → broken_within edge side past head ≡ None
unfolding broken_within
none_broken edge side past head k =
    skip _ _ _ k.shape.nul_shape (skip _ _ _ k.shape.not_continued (skip _ _ _ k.shape.kind_changed (skip _ _ _ k.shape.number_in_use
    (skip _ _ _ k.shape.never_asked (skip _ _ _ k.shape.early_reply (skip _ _ _ k.shape.already_answered (skip _ _ _ k.shape.out_of_turn
    (skip _ _ _ k.shape.nul_not_after_ans (skip _ _ _ k.shape.nul_too_soon (skip _ _ _ k.sequence (skip _ _ _ k.long (skip _ _ _ k.window
    (skip _ _ _ k.shape.empty_answer (skip _ _ _ k.shape.too_many_requests (skip _ _ _ k.shape.too_many_answers refl)))))))))))))))

-- of the rules of the exchange alone
pub none_exchange : (side : Side) (past : List Item) (head : Head) → Kept side past head → exchange_rule side past head ≡ None
unfolding exchange_rule
none_exchange side past head k =
    skip _ _ _ k.nul_shape (skip _ _ _ k.not_continued (skip _ _ _ k.kind_changed (skip _ _ _ k.number_in_use
    (skip _ _ _ k.never_asked (skip _ _ _ k.early_reply (skip _ _ _ k.already_answered (skip _ _ _ k.out_of_turn
    (skip _ _ _ k.nul_not_after_ans (skip _ _ _ k.nul_too_soon
    (skip _ _ _ k.empty_answer (skip _ _ _ k.too_many_requests (skip _ _ _ k.too_many_answers refl))))))))))))
