-- The search finds the first LF.
use Rattle.std.proofs.Common.{◌≡◌, ℕ, ◌-◌, ◌<◌, true, ◌==◌, List, length, take, drop, get_or, sym, subst, arith, length-drop}
use Rattle.std.proofs.lemmas.List.{take_rest}
use Rattle.memchr.specs.Find.{Passes, is_byte}
use Rattle.beep_input.proofs.FoundLemmas.{none-found, lf-at, lf-none}
use Rattle.beep_input.proofs.listing.lf_place.Goals as goal

hay-length : (octets : List ℕ) (from : ℕ) → length (take (length octets - from) (drop from octets)) ≡ length octets - from
hay-length octets from = subst (λ (h : List ℕ). length h ≡ length octets - from) (sym (take_rest octets from)) (length-drop from octets)

pub returns-in-Some-clause-value : goal.returns-in-Some-clause-value
returns-in-Some-clause-value c =
    let octets = c.args.octets.now in
    let from = c.args.from in
    let count = c.in-Some.count in
    let len = length-drop from octets in
    let within : count < length (drop from octets) = omega (arith, hay-length octets from, c.in-Some.ensures.0.high, len) in
    let found : (get_or (drop from octets) count 0 == 10) ≡ true = subst (λ (h : List ℕ). Passes (is_byte 10) h count) (take_rest octets from) c.in-Some.ensures.1 in
    let at = lf-at (drop from octets) count within (none-found octets from count c.in-Some.ensures.0.before) found in
    omega (arith, at)

pub returns-in-None-clause-value : goal.returns-in-None-clause-value
returns-in-None-clause-value c =
    let octets = c.args.octets.now in
    let from = c.args.from in
    let len = length-drop from octets in
    let hay = hay-length octets from in
    let none = lf-none (drop from octets)
    (λ k below. none-found octets from (length (take (length octets - from) (drop from octets))) c.in-None.ensures k (omega (arith, hay, below, len))) in
    omega (arith, none, len, c.requires)
