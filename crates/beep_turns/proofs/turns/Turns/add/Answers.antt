-- The number goes to its place.
use Rattle.std.proofs.Common.{◌≡◌, ℕ, ◌==◌, nat_lt, false, List, subst, sym, ◌∙◌, arith}
use Rattle.std.specs.List.{list_any, count_by}
use Rattle.beep_turns.specs.Order.{IsAscending, insert}
use Rattle.beep_turns.proofs.PlaceLemmas.{none-found}
use Rattle.beep_turns.proofs.OrderLemmas.{insert-at, insert-ascending}
use Rattle.beep_turns.proofs.turns.Turns.add.Goals as goal

pub invariant_of-self : goal.invariant_of-self
invariant_of-self c =
    let ns : List ℕ = c.self.inside.channels.items in
    let fresh : list_any (λ n. n == c.args.channel) ns ≡ false =
    subst (λ (xs : List ℕ). list_any (λ n. n == c.args.channel) xs ≡ false) (sym c.self.view_is) (none-found (λ n. n == c.args.channel) c.args.self.now c.requires.fresh) in
    let place : c.below-place.result ≡ count_by (λ n. nat_lt n c.args.channel) ns =
    subst (λ (xs : List ℕ). c.below-place.result ≡ count_by (λ n. nat_lt n c.args.channel) xs) (sym c.self.view_is) c.below-place.ensures in
    let items : c.insert.new.self.items ≡ insert c.args.channel ns =
    c.in-Ok.ensures.items ∙ insert-at 0 c.args.channel c.below-place.result ns c.self.invariant.1 fresh place in
    let room = c.in-Ok.ensures.capacity in
    let before = c.self.invariant.0 in (
      omega (arith, room, before),
      subst (λ (xs : List ℕ). IsAscending 0 xs) (sym items) (insert-ascending 0 c.args.channel ns (omega arith) c.self.invariant.1 fresh),
    )

pub returns : goal.returns
returns c =
    let ns : List ℕ = c.self.inside.channels.items in
    let fresh : list_any (λ n. n == c.args.channel) ns ≡ false =
    subst (λ (xs : List ℕ). list_any (λ n. n == c.args.channel) xs ≡ false) (sym c.self.view_is) (none-found (λ n. n == c.args.channel) c.args.self.now c.requires.fresh) in
    let place : c.below-place.result ≡ count_by (λ n. nat_lt n c.args.channel) ns =
    subst (λ (xs : List ℕ). c.below-place.result ≡ count_by (λ n. nat_lt n c.args.channel) xs) (sym c.self.view_is) c.below-place.ensures in
    subst (λ (xs : List ℕ). c.insert.new.self.items ≡ insert c.args.channel xs) c.self.view_is
    (c.in-Ok.ensures.items ∙ insert-at 0 c.args.channel c.below-place.result ns c.self.invariant.1 fresh place)
