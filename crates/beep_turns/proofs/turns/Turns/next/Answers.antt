-- The first flag that is set is that of the lowest ready number.
use Rattle.std.proofs.Common.{◌≡◌, ℕ, Bool, Some, List, length, slice_get, subst, sym, ◌∙◌, ap, refl, arith, slice_index_or}
use Rattle.std.specs.Prelude.{is_some}
use Rattle.std.specs.List.{position}
use Rattle.std.proofs.lemmas.Option.{slice_get_read}
use Rattle.beep_turns.specs.Order.{IsAscending}
use Rattle.beep_turns.proofs.PlaceLemmas.{found, place-within, any-found}
use Rattle.beep_turns.proofs.OrderLemmas.{first-found, first-missing, least-found}
use Rattle.beep_turns.proofs.turns.Turns.next.Goals as goal

pub returns-in_default-clause-value : goal.returns-in_default-clause-value
returns-in_default-clause-value c = first-missing c.args.ready.now c.args.self.now (sym c.first.ensures ∙ c.in_default.is)

pub returns-in_default-clause-none : goal.returns-in_default-clause-none
returns-in_default-clause-none c =
    ap is_some (sym c.in_default.is ∙ c.first.ensures) ∙ any-found (λ flag. flag) c.args.ready.now

at-place : (flags : List Bool) (ns now : List ℕ) (place n : ℕ) → position (λ flag. flag) flags ≡ Some place → length flags ≡ length now → ns ≡ now
    → n ≡ slice_index_or ns place n → slice_get now place ≡ Some n
at-place flags ns now place n e lengths same read =
    let within = place-within (λ flag. flag) flags place (found (λ flag. flag) flags place e) in
    subst (λ (xs : List ℕ). slice_get xs place ≡ Some n) same
    (slice_get_read ns (length ns) place n refl (let equal = ap length same in omega (arith, within, lengths, equal)) read)

pub returns-clause-value : goal.returns-clause-value
returns-clause-value c =
    let e = sym c.first.ensures ∙ c.in-Some.is in
    first-found c.args.ready.now c.args.self.now c.in-Some.place c.index.result.now e
    (at-place c.args.ready.now c.self.inside.channels.items c.args.self.now c.in-Some.place c.index.result.now e c.requires c.self.view_is c.index.ensures)

pub returns-clause-least : goal.returns-clause-least
returns-clause-least c =
    let e = sym c.first.ensures ∙ c.in-Some.is in
    let ascending = subst (λ (xs : List ℕ). IsAscending 0 xs) c.self.view_is c.self.invariant.1 in
    least-found 0 c.args.ready.now c.args.self.now c.in-Some.place c.index.result.now ascending e
    (at-place c.args.ready.now c.self.inside.channels.items c.args.self.now c.in-Some.place c.index.result.now e c.requires c.self.view_is c.index.ensures)

pub returns-clause-none : goal.returns-clause-none
returns-clause-none c = ap is_some (sym c.in-Some.is ∙ c.first.ensures) ∙ any-found (λ flag. flag) c.args.ready.now
