-- The channel goes to the place of its number, and its flags beside it.
use Rattle.std.proofs.Common.{◌≡◌, ℕ, ◌==◌, Bool, List, length, None, Some, refl, sym, ap, ◌∙◌, subst, arith}
use Rattle.std.proofs.lemmas.List.{length-map}
use Rattle.std.specs.List.{position, insert}
use Rattle.beep_channel.specs.Held.{Live}
use Rattle.beep_turns.specs.Order as order
use Rattle.beep_lives.specs.Lives.{live_at, numbers, can_send, owes_seq, AreKept}
use Rattle.beep_lives.specs.Edits.{Joins}
use Rattle.beep_lives.proofs.JoinLemmas.{add-fresh, added-found, added-place, added-within, joined, joined-kept}
use Rattle.beep_lives.proofs.lives.Lives.add.Goals as goal

pub add-requires-clause-fresh : goal.add-requires-clause-fresh
add-requires-clause-fresh c =
    add-fresh c.number-number.result c.args.channel.held.number c.self.inside.turns c.self.inside.channels.items c.args.self.now
    c.number-number.ensures c.self.invariant.0.turns_are c.self.view_is c.requires.fresh

pub unreachable-requires : goal.unreachable-requires
unreachable-requires c =
    added-found c.number-number.result c.add.new.self c.self.inside.turns (numbers c.self.inside.channels.items) c.find.result
    c.add.ensures c.self.invariant.0.turns_are c.find.ensures c.in_default.is

pub put-requires-clause-within : goal.put-requires-clause-within
put-requires-clause-within c =
    let items : List Live = c.self.inside.channels.items in
    let named : ℕ = c.args.channel.held.number in
    let place : position (λ n. n == named) (order.insert named (numbers items)) ≡ Some c.in-Some.i =
    added-place c.number-number.result named c.add.new.self c.self.inside.turns (numbers items) c.find.result c.in-Some.i
    c.number-number.ensures c.add.ensures c.self.invariant.0.turns_are c.find.ensures c.in-Some.is in
    let inside = added-within named c.in-Some.i items place in
    let same : length c.self.inside.ready.items ≡ length items =
    ap length c.self.invariant.0.ready_are ∙ length-map items can_send in
    let counted = c.self.inside.ready.ok.0 in
    omega (arith, inside, same, counted)

pub put-requires-2-clause-within : goal.put-requires-2-clause-within
put-requires-2-clause-within c =
    let items : List Live = c.self.inside.channels.items in
    let named : ℕ = c.args.channel.held.number in
    let place : position (λ n. n == named) (order.insert named (numbers items)) ≡ Some c.in-Some.i =
    added-place c.number-number.result named c.add.new.self c.self.inside.turns (numbers items) c.find.result c.in-Some.i
    c.number-number.ensures c.add.ensures c.self.invariant.0.turns_are c.find.ensures c.in-Some.is in
    let inside = added-within named c.in-Some.i items place in
    let same : length c.self.inside.due.items ≡ length items =
    ap length c.self.invariant.0.due_are ∙ length-map items owes_seq in
    let counted = c.self.inside.due.ok.0 in
    omega (arith, inside, same, counted)

pub put-requires-3-clause-within : goal.put-requires-3-clause-within
put-requires-3-clause-within c =
    let items : List Live = c.self.inside.channels.items in
    let named : ℕ = c.args.channel.held.number in
    let place : position (λ n. n == named) (order.insert named (numbers items)) ≡ Some c.in-Some.i =
    added-place c.number-number.result named c.add.new.self c.self.inside.turns (numbers items) c.find.result c.in-Some.i
    c.number-number.ensures c.add.ensures c.self.invariant.0.turns_are c.find.ensures c.in-Some.is in
    let inside = added-within named c.in-Some.i items place in
    let same : length items ≡ length items = refl in
    let counted = c.self.inside.channels.ok.0 in
    omega (arith, inside, same, counted)

pub invariant_of-self : goal.invariant_of-self
invariant_of-self c =
    let items : List Live = c.self.inside.channels.items in
    let named : ℕ = c.args.channel.held.number in
    let place : position (λ n. n == named) (order.insert named (numbers items)) ≡ Some c.in-Some.i =
    added-place c.number-number.result named c.add.new.self c.self.inside.turns (numbers items) c.find.result c.in-Some.i
    c.number-number.ensures c.add.ensures c.self.invariant.0.turns_are c.find.ensures c.in-Some.is in
    let free : live_at named items ≡ None = subst (λ (xs : List Live). live_at named xs ≡ None) (sym c.self.view_is) c.requires.fresh in
    let channels_room = c.put-3.ensures.room in
    let ready_room = c.put.ensures.room in
    let due_room = c.put-2.ensures.room in
    let channels_was = c.self.invariant.1 in
    let ready_was = c.self.invariant.2 in
    let due_was = c.self.invariant.3 in (
      subst (λ (xs : List Live). AreKept c.add.new.self xs c.put.new.items.items c.put-2.new.items.items) (sym c.put-3.ensures.items)
          (joined-kept c.args.channel items c.in-Some.i free c.self.invariant.0.ascending place c.self.inside.turns c.add.new.self c.self.inside.ready.items c.self.inside.due.items
          c.put.new.items.items c.put-2.new.items.items c.self.invariant.0
          (c.add.ensures ∙ ap (λ (k : ℕ). order.insert k c.self.inside.turns) c.number-number.ensures)
          (c.put.ensures.items ∙ ap (λ (t : Bool). insert c.self.inside.ready.items c.in-Some.i t) c.is_ready.ensures)
          (c.put-2.ensures.items ∙ ap (λ (t : Bool). insert c.self.inside.due.items c.in-Some.i t) c.owes_seq.ensures)),
      omega (arith, channels_room, channels_was),
      omega (arith, ready_room, ready_was),
      omega (arith, due_room, due_was),
    )

pub returns : goal.returns
returns c =
    let items : List Live = c.self.inside.channels.items in
    let named : ℕ = c.args.channel.held.number in
    let place : position (λ n. n == named) (order.insert named (numbers items)) ≡ Some c.in-Some.i =
    added-place c.number-number.result named c.add.new.self c.self.inside.turns (numbers items) c.find.result c.in-Some.i
    c.number-number.ensures c.add.ensures c.self.invariant.0.turns_are c.find.ensures c.in-Some.is in
    let free : live_at named items ≡ None = subst (λ (xs : List Live). live_at named xs ≡ None) (sym c.self.view_is) c.requires.fresh in
    subst (λ (xs : List Live). Joins c.args.channel xs c.put-3.new.items.items) c.self.view_is
    (subst (λ (xs : List Live). Joins c.args.channel items xs) (sym c.put-3.ensures.items)
    (joined c.args.channel items c.in-Some.i free c.self.invariant.0.ascending place))
