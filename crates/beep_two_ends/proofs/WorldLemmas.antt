-- In a pair of two lawful ends of one life the next item to arrive breaks no rule.
use Rattle.std.proofs.Common.{◌≡◌, ◌+◌, ◌≤◌, true, false, List, [], ◌∷◌, ◌++◌, None, refl, sym, ap, ◌∙◌, arith, append_assoc, subst}
use Rattle.std.proofs.lemmas.Bool.{le-ltb, ltb-false}
use Rattle.beep_frame.specs.declared.head.Head.{Head}
use Rattle.beep_frame.specs.declared.seq.Seq.{Seq}
use Rattle.beep_history.specs.declared.journal.Side.{Side}
use Rattle.beep_history.specs.Journal.{Item, began, passed, told, turned}
use Rattle.beep_history.specs.Marks.{frames, passed_octets, octets_of}
use Rattle.beep_history.specs.Broken.{broken_rule, broken_within, under_way}
use Rattle.beep_history.specs.Windows.{acked_octets, last_window, open_now, is_bad_ack, greatest_edge, window_edge}
use Rattle.beep_two_ends.specs.Seen.{arrived, sent, Sees, is_received}
use Rattle.beep_two_ends.specs.OneLife.{IsLawfulSeq, IsLawfulHead, IsLawful, BreaksNothing, NeverBroke}
use Rattle.beep_two_ends.specs.Run.{World}
use Rattle.beep_two_ends.proofs.KeptLemmas.{AllKept}
use Rattle.beep_two_ends.proofs.WaysLemmas.{frames-arrived, frames-sent, under_way-arrived, under_way-sent}
use Rattle.beep_two_ends.proofs.SeenLemmas.{agrees}
use Rattle.beep_two_ends.proofs.RowsLemmas.{all_rows_at}
use Rattle.beep_two_ends.proofs.WindowLemmas.{kept_of, unbroken, acknowledged, window_advertised, windows, acked-arrived, window-arrived, window-sent, acked-sent, seq_counted}
use Rattle.beep_two_ends.proofs.SplitLemmas.{SentAt, sent_at, when, lawful-earlier, whole-earlier, arrived-append, edge-earlier, octets-earlier}

-- the edge that a sender goes by was advertised by the other end
pub edge_told : (mine theirs : List Item) → IsLawful theirs → NeverBroke theirs → Sees mine theirs
    → acked_octets Side.Sent mine + last_window Side.Sent mine ≤ greatest_edge Side.Received theirs
edge_told mine theirs l w s =
    let m = when theirs s.newer (arrived mine) s.some in
    let l' : IsLawful m.earlier = lawful-earlier m.later m.earlier (subst (λ (xs : List Item). IsLawful xs) m.is l) in
    let w' : NeverBroke m.earlier = whole-earlier m.later m.earlier (subst (λ (xs : List Item). NeverBroke xs) m.is w) in
    let v = windows m.earlier l' w' in
    let a : acked_octets Side.Sent mine ≡ acknowledged m.earlier = sym (acked-arrived mine) ∙ ap (acked_octets Side.Sent) (sym m.at) ∙ acked-sent m.earlier l' w' in
    let b : last_window Side.Sent mine ≡ window_advertised m.earlier = sym (window-arrived mine) ∙ ap (last_window Side.Sent) (sym m.at) ∙ window-sent m.earlier in
    let grown : greatest_edge Side.Received m.earlier ≤ greatest_edge Side.Received theirs =
    subst (λ (xs : List Item). greatest_edge Side.Received m.earlier ≤ greatest_edge Side.Received xs) (sym m.is) (edge-earlier m.later m.earlier) in
    omega (arith, v.edge, a, b, grown)

-- a lawful header breaks no rule as it arrives
at_edge : (past : List Item) (head : Head) → broken_within (greatest_edge Side.Received past) Side.Received past head ≡ None → broken_rule Side.Received past head ≡ None
unfolding broken_rule
at_edge past head e = e

-- a header within the open octets, by the rule Window of the sender
within_open : (past : List Item) (head : Head) → AllKept (window_edge Side.Sent past) Side.Sent past head → head.size ≤ open_now Side.Sent past
within_open past head k = let n = ltb-false _ _ k.window in omega (arith, n)

pub head_arrives : (mine theirs : List Item) (head : Head) → IsLawful mine → NeverBroke mine → IsLawful theirs → NeverBroke theirs → Sees mine theirs
    → IsLawfulHead mine head → (under_way Side.Received theirs ≡ None) × (broken_rule Side.Received theirs head ≡ None)
head_arrives mine theirs head l w l' w' s h =
    let u = unbroken mine l w in
    let v = unbroken theirs l' w' in
    let a = agrees mine theirs u v s in
    let same : passed_octets Side.Received theirs ≡ passed_octets Side.Sent mine = ap octets_of a.same_frames in
    let told = edge_told mine theirs l' w' s in
    let n = windows theirs l' w' in
    let k = kept_of Side.Sent mine head h.rules in
    let size : head.size ≤ open_now Side.Sent mine = within_open mine head k in (
      sym (under_way-arrived theirs) ∙ ap (under_way Side.Received) s.all ∙ under_way-sent mine ∙ h.free,
      at_edge theirs head (all_rows_at (window_edge Side.Sent mine) (greatest_edge Side.Received theirs) mine theirs head u v s k
          (le-ltb _ _ (omega (arith, same, told, n.within, size)))),
    )

-- a lawful SEQ breaks no rule as it arrives
pub seq_arrives : (mine theirs : List Item) (seq : Seq) → IsLawful mine → NeverBroke mine → Sees mine theirs → IsLawfulSeq mine seq
    → is_bad_ack Side.Received theirs seq ≡ false
seq_arrives mine theirs seq l w s q =
    let n = windows mine l w in
    let a : acked_octets Side.Sent theirs ≡ acknowledged mine = sym (acked-arrived theirs) ∙ ap (acked_octets Side.Sent) s.all ∙ acked-sent mine l w in
    let c = seq_counted mine seq q n in
    let few : octets_of (frames Side.Received mine) ≤ octets_of (frames Side.Sent theirs) =
    rw (← frames-arrived mine, ← frames-sent theirs, s.some) (octets-earlier s.newer (arrived mine)) in
    rw (a, c) (le-ltb _ _ few)

-- what the sender of an item had seen when it sent it
pub sees_at : (a b to_a : List Item) (item : Item) → sent b ≡ to_a ++ arrived a → is_received item ≡ true → (m : SentAt a item (arrived b)) → Sees m.earlier b
sees_at a b to_a item pair received m = record {
  all = sym m.at;
  newer = to_a ++ arrived m.later;
  some = pair ∙ ap (λ (xs : List Item). to_a ++ arrived xs) m.is ∙ ap (λ (xs : List Item). to_a ++ xs) (arrived-append m.later (turned item ∷ m.earlier) ∙ ap (λ (xs : List Item). arrived m.later ++ xs) (none-arrives item m.earlier received))
      ∙ sym (append_assoc to_a (arrived m.later) (arrived m.earlier));
}
  where
    none-arrives : (item : Item) (past : List Item) → is_received item ≡ true → arrived (turned item ∷ past) ≡ arrived past
    none-arrives (began Side.Received head) past e = refl
    none-arrives (began Side.Sent head) past e = cc
    none-arrives (passed Side.Received head payload) past e = refl
    none-arrives (passed Side.Sent head payload) past e = cc
    none-arrives (told Side.Received seq) past e = refl
    none-arrives (told Side.Sent seq) past e = cc

pub arrives : (b : List Item) (item : Item) (earlier : List Item) → IsLawful (turned item ∷ earlier) → NeverBroke (turned item ∷ earlier)
    → IsLawful b → NeverBroke b → Sees earlier b → is_received item ≡ true → BreaksNothing b item
arrives b (began Side.Received head) earlier l w l' w' s r = head_arrives earlier b head l.1 w.1 l' w' s l.0
arrives b (passed Side.Received head payload) earlier l w l' w' s r =
    (sym (under_way-arrived b) ∙ ap (under_way Side.Received) s.all ∙ under_way-sent earlier ∙ l.0.begun, l.0.size)
arrives b (told Side.Received seq) earlier l w l' w' s r = seq_arrives earlier b seq l.1 w.1 s l.0
arrives b (began Side.Sent head) earlier l w l' w' s r = cc
arrives b (passed Side.Sent head payload) earlier l w l' w' s r = cc
arrives b (told Side.Sent seq) earlier l w l' w' s r = cc

pub next_breaks_nothing : (a b to_a to_b : List Item) (item : Item) → World a b to_a (to_b ++ item ∷ []) → BreaksNothing b item
next_breaks_nothing a b to_a to_b item w =
    let e : sent a ≡ to_b ++ item ∷ arrived b = w.pair.to_b_is ∙ append_assoc to_b (item ∷ []) (arrived b) in
    let m = sent_at a item to_b (arrived b) e in
    let l : IsLawful (turned item ∷ m.earlier) = lawful-earlier m.later (turned item ∷ m.earlier) (subst (λ (xs : List Item). IsLawful xs) m.is w.a_lawful) in
    let v : NeverBroke (turned item ∷ m.earlier) = whole-earlier m.later (turned item ∷ m.earlier) (subst (λ (xs : List Item). NeverBroke xs) m.is w.a_whole) in
    arrives b item m.earlier l v w.b_lawful w.b_whole (sees_at a b to_a item w.pair.to_a_is m.comes m) m.comes
