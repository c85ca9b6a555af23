-- The search by halves finds the place of the number.
use Rattle.std.proofs.Common.{◌≡◌, ℕ, ◌==◌, List, None, Some, Ok, Err, subst, sym, ◌∙◌}
use Rattle.std.specs.List.{position}
use Rattle.std.proofs.lemmas.List.Sorted.{searched}
use Rattle.beep_turns.specs.Order.{IsAscending}
use Rattle.beep_turns.proofs.SearchLemmas.{found-at, absent, rising}
use Rattle.beep_turns.proofs.turns.Turns.find.Goals as goal

pub returns-in-Ok : goal.returns-in-Ok
returns-in-Ok c =
    let ns : List ℕ = c.deref.result.now in
    let asc : IsAscending 0 ns = subst (λ (xs : List ℕ). IsAscending 0 xs) (sym c.deref.ensures.value) c.self.invariant.1 in
    let at = searched ns c.args.channel (Ok c.in-Ok.place) c.in-Ok.ensures.position (rising ns asc) in
    subst (λ (xs : List ℕ). Some c.in-Ok.place ≡ position (λ n. n == c.args.channel) xs) (c.deref.ensures.value ∙ c.self.view_is)
    (sym (found-at ns c.args.channel c.in-Ok.place asc at.0 at.1))

pub returns-in-Err : goal.returns-in-Err
returns-in-Err c =
    let ns : List ℕ = c.deref.result.now in
    let asc : IsAscending 0 ns = subst (λ (xs : List ℕ). IsAscending 0 xs) (sym c.deref.ensures.value) c.self.invariant.1 in
    let at = searched ns c.args.channel (Err c.in-Err.field-0) c.in-Err.ensures.position (rising ns asc) in
    subst (λ (xs : List ℕ). None ≡ position (λ n. n == c.args.channel) xs) (c.deref.ensures.value ∙ c.self.view_is)
    (sym (absent ns c.args.channel c.in-Err.field-0 at.1 at.2))
