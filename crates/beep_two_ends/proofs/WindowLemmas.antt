-- What the windows of a life are where each end is lawful and nothing that arrived broke a rule.
use Rattle.std.proofs.Common.{◌≡◌, ℕ, ◌+◌, ◌^◌, ◌<◌, ◌≤◌, max, if◌then◌else◌, List, [], ◌∷◌, None, refl, arith}
use Rattle.std.specs.Option.{option_map_or}
use Rattle.std.proofs.lemmas.Bool.{ltb-false}
use Rattle.beep_frame.specs.declared.head.Head.{Head}
use Rattle.beep_frame.specs.declared.seq.Seq.{Seq}
use Rattle.beep_history.specs.declared.journal.Side.{Side}
use Rattle.beep_seq.specs.declared.limits.TheConstants.{INITIAL_WINDOW}
use Rattle.beep_history.specs.Journal.{Item, began, passed, told, same_side}
use Rattle.beep_history.specs.Marks.{passed_octets}
use Rattle.beep_history.specs.Broken.{broken_rule, under_way, KeepsExchangeRules}
use Rattle.beep_history.specs.Windows.{acked_octets, last_window, greatest_edge, window_edge}
use Rattle.beep_seq.specs.Wire.{wire_number, count_from}
use Rattle.beep_two_ends.specs.Seen.{arrived, sent}
use Rattle.beep_two_ends.specs.OneLife.{IsLawfulSeq, IsLawful, NeverBroke}
use Rattle.beep_two_ends.proofs.KeptLemmas.{AllKept, all_kept, none_exchange}

pub kept_of : (side : Side) (past : List Item) (head : Head) → broken_rule side past head ≡ None → AllKept (window_edge side past) side past head
unfolding broken_rule
kept_of side past head e = all_kept (window_edge side past) side past head e

-- a lawful history in which nothing that arrived broke a rule is unbroken
pub unbroken : (past : List Item) → IsLawful past → NeverBroke past → KeepsExchangeRules past
unbroken [] l w = tt
unbroken (began Side.Received head ∷ past) l w = (w.0.0, none_exchange _ _ _ (kept_of _ _ _ w.0.1).shape, unbroken past l.1 w.1)
unbroken (began Side.Sent head ∷ past) l w = (l.0.free, none_exchange _ _ _ (kept_of _ _ _ l.0.rules).shape, unbroken past l.1 w.1)
unbroken (passed Side.Received head payload ∷ past) l w = (w.0.0, w.0.1, unbroken past l.1 w.1)
unbroken (passed Side.Sent head payload ∷ past) l w = (l.0.begun, l.0.size, unbroken past l.1 w.1)
unbroken (told Side.Received seq ∷ past) l w = unbroken past l.1 w.1
unbroken (told Side.Sent seq ∷ past) l w = unbroken past l.1 w.1

-- ---- this end's own SEQs

-- the octets that this end acknowledged last
abbrev pub acknowledged : List Item → ℕ
acknowledged [] = 0
acknowledged (began by head ∷ past) = acknowledged past
acknowledged (passed by head payload ∷ past) = acknowledged past
acknowledged (told by seq ∷ past) = if same_side by Side.Sent then passed_octets Side.Received past else acknowledged past

-- the window that this end advertised last
abbrev pub window_advertised : List Item → ℕ
window_advertised [] = INITIAL_WINDOW
window_advertised (began by head ∷ past) = window_advertised past
window_advertised (passed by head payload ∷ past) = window_advertised past
window_advertised (told by seq ∷ past) = if same_side by Side.Sent then seq.window else window_advertised past

-- the octets of the frame under way
abbrev pub going : List Item → ℕ
going past = option_map_or (λ (head : Head). head.size) (under_way Side.Received past) 0

-- the edge is that of the last SEQ, and what arrived or is under way stays within it
pub record Windows (past : List Item) : Type 0 where
  pub edge : greatest_edge Side.Received past ≡ acknowledged past + window_advertised past
  pub reached : acknowledged past ≤ passed_octets Side.Received past
  pub within : passed_octets Side.Received past + going past ≤ greatest_edge Side.Received past
  pub narrow : window_advertised past < 2 ^ 31

pub windows : (past : List Item) → IsLawful past → NeverBroke past → Windows past
windows [] l w = record { edge = refl; reached = omega arith; within = omega arith; narrow = omega arith }
windows (began Side.Received head ∷ past) l w =
    let s = windows past l.1 w.1 in
    let k = kept_of _ _ _ w.0.1 in
    record { edge = s.edge; reached = s.reached; within = ltb-false _ _ k.window; narrow = s.narrow }
windows (began Side.Sent head ∷ past) l w =
    let s = windows past l.1 w.1 in
    record { edge = s.edge; reached = s.reached; within = s.within; narrow = s.narrow }
windows (passed Side.Received head payload ∷ past) l w =
    let s = windows past l.1 w.1 in
    let e : going past ≡ head.size = rw w.0.0 in
    record { edge = s.edge; reached = omega (arith, s.reached); within = omega (arith, s.within, e); narrow = s.narrow }
windows (passed Side.Sent head payload ∷ past) l w =
    let s = windows past l.1 w.1 in
    record { edge = s.edge; reached = s.reached; within = s.within; narrow = s.narrow }
windows (told Side.Received seq ∷ past) l w =
    let s = windows past l.1 w.1 in
    record { edge = s.edge; reached = s.reached; within = s.within; narrow = s.narrow }
windows (told Side.Sent seq ∷ past) l w =
    let s = windows past l.1 w.1 in
    record {
      edge = grow _ _ l.0.edge;
      reached = omega arith;
      within = rw (grow _ _ l.0.edge) (omega (arith, s.within, l.0.edge));
      narrow = omega (arith, l.0.window);
    }
  where
    grow : (a b : ℕ) → a ≤ b → max a b ≡ b
    grow a b h = omega (arith, h)

-- ---- as the other end reads them

pub counted : (start count : ℕ) → start ≤ count → count < start + 2 ^ 32 → count_from start (wire_number count) ≡ count
counted start count reached near = omega arith

pub acked-arrived : (past : List Item) → acked_octets Side.Sent (arrived past) ≡ acked_octets Side.Sent past
acked-arrived [] = refl
acked-arrived (began Side.Received head ∷ past) = acked-arrived past
acked-arrived (began Side.Sent head ∷ past) = acked-arrived past
acked-arrived (passed Side.Received head payload ∷ past) = acked-arrived past
acked-arrived (passed Side.Sent head payload ∷ past) = acked-arrived past
acked-arrived (told Side.Received seq ∷ past) = rw (acked-arrived past)
acked-arrived (told Side.Sent seq ∷ past) = acked-arrived past

pub window-arrived : (past : List Item) → last_window Side.Sent (arrived past) ≡ last_window Side.Sent past
window-arrived [] = refl
window-arrived (began Side.Received head ∷ past) = window-arrived past
window-arrived (began Side.Sent head ∷ past) = window-arrived past
window-arrived (passed Side.Received head payload ∷ past) = window-arrived past
window-arrived (passed Side.Sent head payload ∷ past) = window-arrived past
window-arrived (told Side.Received seq ∷ past) = refl
window-arrived (told Side.Sent seq ∷ past) = window-arrived past

pub window-sent : (past : List Item) → last_window Side.Sent (sent past) ≡ window_advertised past
window-sent [] = refl
window-sent (began Side.Received head ∷ past) = window-sent past
window-sent (began Side.Sent head ∷ past) = window-sent past
window-sent (passed Side.Received head payload ∷ past) = window-sent past
window-sent (passed Side.Sent head payload ∷ past) = window-sent past
window-sent (told Side.Received seq ∷ past) = window-sent past
window-sent (told Side.Sent seq ∷ past) = refl

-- a lawful SEQ is read as the octets that had arrived when it was sent
pub seq_counted : (past : List Item) (seq : Seq) → IsLawfulSeq past seq → Windows past
    → count_from (acknowledged past) seq.ackno ≡ passed_octets Side.Received past
seq_counted past seq l s =
    rw l.ackno (counted (acknowledged past) (passed_octets Side.Received past) s.reached (omega (arith, s.within, s.edge, s.narrow)))

pub acked-sent : (past : List Item) → IsLawful past → NeverBroke past → acked_octets Side.Sent (sent past) ≡ acknowledged past
acked-sent [] l w = refl
acked-sent (began Side.Received head ∷ past) l w = acked-sent past l.1 w.1
acked-sent (began Side.Sent head ∷ past) l w = acked-sent past l.1 w.1
acked-sent (passed Side.Received head payload ∷ past) l w = acked-sent past l.1 w.1
acked-sent (passed Side.Sent head payload ∷ past) l w = acked-sent past l.1 w.1
acked-sent (told Side.Received seq ∷ past) l w = acked-sent past l.1 w.1
acked-sent (told Side.Sent seq ∷ past) l w = rw (acked-sent past l.1 w.1) (seq_counted past seq l.0 (windows past l.1 w.1))
