-- The number leaves its place.
use Rattle.std.proofs.Common.{◌≡◌, ℕ, ◌==◌, Some, List, subst, sym, ◌∙◌, arith}
use Rattle.std.specs.List.{position}
use Rattle.beep_turns.specs.Order.{IsAscending, without}
use Rattle.beep_turns.proofs.PlaceLemmas.{none-found}
use Rattle.beep_turns.proofs.OrderLemmas.{remove-at, without-none, without-ascending}
use Rattle.beep_turns.proofs.turns.Turns.remove.Goals as goal

pub returns-in_default : goal.returns-in_default
returns-in_default c = without-none c.args.channel c.args.self.now
    (none-found (λ n. n == c.args.channel) c.args.self.now (sym c.find.ensures ∙ c.in_default.is))

pub invariant_of-self : goal.invariant_of-self
invariant_of-self c =
    let ns : List ℕ = c.self.inside.channels.items in
    let place : position (λ n. n == c.args.channel) ns ≡ Some c.in-Some.place =
    subst (λ (xs : List ℕ). position (λ n. n == c.args.channel) xs ≡ Some c.in-Some.place) (sym c.self.view_is) (sym c.find.ensures ∙ c.in-Some.is) in
    let items : c.remove.new.self.items ≡ without c.args.channel ns =
    c.remove.ensures.items ∙ remove-at 0 c.args.channel c.in-Some.place ns c.self.invariant.1 place in
    let room = c.remove.ensures.capacity in
    let before = c.self.invariant.0 in (
      omega (arith, room, before),
      subst (λ (xs : List ℕ). IsAscending 0 xs) (sym items) (without-ascending 0 c.args.channel ns c.self.invariant.1),
    )

pub returns : goal.returns
returns c =
    let ns : List ℕ = c.self.inside.channels.items in
    let place : position (λ n. n == c.args.channel) ns ≡ Some c.in-Some.place =
    subst (λ (xs : List ℕ). position (λ n. n == c.args.channel) xs ≡ Some c.in-Some.place) (sym c.self.view_is) (sym c.find.ensures ∙ c.in-Some.is) in
    subst (λ (xs : List ℕ). c.remove.new.self.items ≡ without c.args.channel xs) c.self.view_is
    (c.remove.ensures.items ∙ remove-at 0 c.args.channel c.in-Some.place ns c.self.invariant.1 place)
