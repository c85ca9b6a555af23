-- What the search didn't find is written as it is.
use Rattle.std.proofs.Common.{◌≡◌, ℕ, ◌-◌, true, List, length, take, drop, get_or, sym, subst, arith, length-drop}
use Rattle.std.proofs.lemmas.List.{take_rest}
use Rattle.memchr.specs.Find.{is_byte3}
use Rattle.prof_raw.specs.Line.{octets_written}
use Rattle.prof_raw.proofs.PlainLemmas.{found-there, none-found, plain-written}
use Rattle.prof_raw.proofs.line.plain_end.Goals as goal

pub returns-in-Some-clause-plain : goal.returns-in-Some-clause-plain
returns-in-Some-clause-plain c =
    let octets = c.args.octets.now in
    let from = c.args.from in
    let count = c.in-Some.count in
    subst (λ n. octets_written (take n (drop from octets)) ≡ take n (drop from octets)) (omega arith)
    (plain-written (drop from octets) count (none-found (is_byte3 10 13 92) octets from count c.in-Some.ensures.0.before))

pub returns-in-None-clause-plain : goal.returns-in-None-clause-plain
returns-in-None-clause-plain c =
    let octets = c.args.octets.now in
    let from = c.args.from in
    let hay = take (length octets - from) (drop from octets) in
    let count : length hay ≡ length octets - from = subst (λ (h : List ℕ). length h ≡ length octets - from) (sym (take_rest octets from)) (length-drop from octets) in
    plain-written (drop from octets) (length octets - from)
    (λ k below. none-found (is_byte3 10 13 92) octets from (length hay) c.in-None.ensures k (omega (arith, count, below)))

pub returns-in-Some-clause-none : goal.returns-in-Some-clause-none
returns-in-Some-clause-none c =
    λ k below. none-found (is_byte3 10 13 92) c.args.octets.now c.args.from c.in-Some.count c.in-Some.ensures.0.before k (omega (arith, below))

pub returns-in-None-clause-none : goal.returns-in-None-clause-none
returns-in-None-clause-none c =
    let octets = c.args.octets.now in
    let from = c.args.from in
    let hay = take (length octets - from) (drop from octets) in
    let count : length hay ≡ length octets - from = subst (λ (h : List ℕ). length h ≡ length octets - from) (sym (take_rest octets from)) (length-drop from octets) in
    λ k below. none-found (is_byte3 10 13 92) octets from (length hay) c.in-None.ensures k (omega (arith, count, below))

pub returns-in-Some-clause-stops : goal.returns-in-Some-clause-stops
returns-in-Some-clause-stops c =
    let octets = c.args.octets.now in
    let from = c.args.from in
    λ _. subst (λ n. is_byte3 10 13 92 (get_or (drop from octets) n 0) ≡ true) (omega arith)
    (found-there (is_byte3 10 13 92) octets from c.in-Some.count c.in-Some.ensures.1)
