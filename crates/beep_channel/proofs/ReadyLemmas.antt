-- A frame can go, by the history and by what was given, exactly where what is held says so.
use Rattle.std.proofs.Common.{◌≡◌, ℕ, ◌==◌, nat_lt, false, ◌&&◌, ◌||◌, List, [], ◌∷◌, ◌++◌, length, drop, map, refl, sym, ap, ◌∙◌, arith}
use Rattle.std.proofs.lemmas.Bool.Decides.{nat_tests}
use Rattle.beep_history.specs.declared.journal.Side.{Side}
use Rattle.beep_history.specs.Journal.{Item}
use Rattle.beep_history.specs.Marks.{Mark, octet, end, marks, mark_modulo_2_64}
use Rattle.beep_history.specs.Windows.{open_now}
use Rattle.beep_outbox.specs.Queue.{Message, marks_of as unsent_marks}
use Rattle.beep_channel.specs.Held.{Held, queue_ready, is_held_ready}
use Rattle.beep_channel.specs.Stands.{Stands}
use Rattle.beep_channel.specs.Ready.{marks_unsent, has_mark, is_end_next, is_due}

-- what stands after as many marks as were sent
drop-sent : (xs ys : List Mark) → drop (length xs) (map mark_modulo_2_64 xs ++ ys) ≡ ys
drop-sent [] ys = refl
drop-sent (x ∷ xs) ys = drop-sent xs ys

-- the first message of a queue can go where the marks say so
queue-ready : (room : ℕ) (ms : List Message) → queue_ready room ms ≡ (has_mark (unsent_marks ms) && (is_end_next (unsent_marks ms) || nat_lt 0 room))
queue-ready room [] = refl
queue-ready room (m ∷ ms) = of m.octets
  where
    of : (octets : List ℕ) → (length octets == 0 || nat_lt 0 room)
        ≡ (has_mark ((map (octet m.tag) octets ++ end m.tag ∷ []) ++ unsent_marks ms) && (is_end_next ((map (octet m.tag) octets ++ end m.tag ∷ []) ++ unsent_marks ms) || nat_lt 0 room))
    of [] = refl
    of (o ∷ octets) = let e : (length (o ∷ octets) == 0) ≡ false = grind (arith, nat_tests) in rw e refl

pub held-ready : (size : ℕ) (c : Held) (past : List Item) (given taken : List Mark) → Stands size c past given taken → is_held_ready c ≡ is_due past given
held-ready size c past given taken t =
    let unsent : marks_unsent past given ≡ unsent_marks c.queue = ap (λ (ms : List Mark). drop (length (marks Side.Sent past)) ms) t.all_given ∙ drop-sent (marks Side.Sent past) (unsent_marks c.queue) in
    queue-ready c.sends.room c.queue
    ∙ ap (λ (room : ℕ). has_mark (unsent_marks c.queue) && (is_end_next (unsent_marks c.queue) || nat_lt 0 room)) t.held.sends.room
    ∙ ap (λ (ms : List Mark). has_mark ms && (is_end_next ms || nat_lt 0 (open_now Side.Sent past))) (sym unsent)
