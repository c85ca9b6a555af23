-- The channel leaves its place, and its flags with it.
use Rattle.std.proofs.Common.{◌≡◌, ◌==◌, List, Some, sym, subst, arith}
use Rattle.std.specs.List.{position}
use Rattle.beep_channel.specs.Held.{Live}
use Rattle.beep_lives.specs.Lives.{numbers, AreKept}
use Rattle.beep_lives.specs.Edits.{Leaves}
use Rattle.beep_lives.proofs.JoinLemmas.{left, left-kept}
use Rattle.beep_lives.proofs.lives.Lives.remove.Goals as goal

pub invariant_of-self : goal.invariant_of-self
invariant_of-self c =
    let items : List Live = c.self.inside.channels.items in
    let at : position (λ n. n == c.args.number) (numbers items) ≡ Some c.in-Some.i =
    subst (λ (xs : List Live). position (λ n. n == c.args.number) (numbers xs) ≡ Some c.in-Some.i) (sym c.self.view_is) c.in-Some.ensures.some.is in
    let channels_room = c.remove-ended.ensures.capacity in
    let ready_room = c.remove-2.ensures.capacity in
    let due_room = c.remove-3.ensures.capacity in
    let channels_was = c.self.invariant.1 in
    let ready_was = c.self.invariant.2 in
    let due_was = c.self.invariant.3 in (
      subst (λ (xs : List Live). AreKept c.remove.new.self xs c.remove-2.new.self.items c.remove-3.new.self.items) (sym c.remove-ended.ensures.items)
          (left-kept c.args.number items c.in-Some.i c.self.invariant.0.ascending at c.self.inside.turns c.remove.new.self c.self.inside.ready.items c.self.inside.due.items
          c.remove-2.new.self.items c.remove-3.new.self.items c.self.invariant.0 c.requires.above c.remove.ensures c.remove-2.ensures.items c.remove-3.ensures.items),
      omega (arith, channels_room, channels_was),
      omega (arith, ready_room, ready_was),
      omega (arith, due_room, due_was),
    )

pub returns : goal.returns
returns c =
    let items : List Live = c.self.inside.channels.items in
    let at : position (λ n. n == c.args.number) (numbers items) ≡ Some c.in-Some.i =
    subst (λ (xs : List Live). position (λ n. n == c.args.number) (numbers xs) ≡ Some c.in-Some.i) (sym c.self.view_is) c.in-Some.ensures.some.is in
    subst (λ (xs : List Live). Leaves c.args.number xs c.remove-ended.new.self.items) c.self.view_is
    (subst (λ (xs : List Live). Leaves c.args.number items xs) (sym c.remove-ended.ensures.items)
    (left c.args.number items c.in-Some.i c.self.invariant.0.ascending at))
