-- The oldest number goes out where the room is full, and else all stay.
use Rattle.std.proofs.Common.{◌≡◌, ◌∷◌, ℕ, List, arith, ap, sym, ◌∙◌, deque_len}
use Rattle.std.proofs.lemmas.List.{take_all}
use Rattle.beep_exchange.proofs.way.push_newest.Goals as goal
use Rattle.beep_exchange.proofs.way.push_newest.Goals.{then-len, else-len}

pub returns-clause-items : goal.returns-clause-items
returns-clause-items c = elim c.if-len.branch [
  | then-len w ↦
      let full : deque_len c.args.numbers.now ≡ 1024 = sym c.len.ensures ∙ w.if-len.true in
      c.push_front_reserved.ensures.items
      ∙ ap (λ (xs : List ℕ). c.args.number ∷ xs) (ap (λ q. q.items) w.numbers-is ∙ rw full at w.pop_back.ensures.rest)
  | else-len w ↦
      c.push_front_reserved.ensures.items
      ∙ ap (λ (xs : List ℕ). c.args.number ∷ xs) (ap (λ q. q.items) w.numbers-is ∙ sym (take_all 1023 c.args.numbers.now.items (omega (arith, c.len.ensures, c.requires.within, c.requires.capacity))))
]
