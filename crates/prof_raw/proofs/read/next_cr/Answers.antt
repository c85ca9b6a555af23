-- No line end stands before the first CR.
use Rattle.std.proofs.Common.{◌≡◌, ℕ, ◌+◌, ◌-◌, ◌<◌, List, length, take, drop, sym, ap, subst, arith, length-drop, drop-drop}
use Rattle.std.proofs.lemmas.List.{take_rest}
use Rattle.memchr.specs.Find.{is_byte}
use Rattle.prof_raw.specs.Walk.{piece_len}
use Rattle.prof_raw.proofs.PieceLemmas.{len-within}
use Rattle.prof_raw.proofs.PlainLemmas.{none-found, no-cr}
use Rattle.prof_raw.proofs.read.next_cr.Goals as goal

hay-length : (octets : List ℕ) (from : ℕ) → length (take (length octets - from) (drop from octets)) ≡ length octets - from
hay-length octets from = subst (λ (h : List ℕ). length h ≡ length octets - from) (sym (take_rest octets from)) (length-drop from octets)

pub returns-in-Some-clause-some : goal.returns-in-Some-clause-some
returns-in-Some-clause-some c =
    let body = c.args.body.now in
    let from = c.args.from in
    let count = c.in-Some.count in
    let high : count < length body - from = omega (arith, hay-length body from, c.in-Some.ensures.0.high) in
    let len = length-drop from body in
    let goes = no-cr (drop from body) count (omega (arith, high, len)) (none-found (is_byte 13) body from count c.in-Some.ensures.0.before) in
    let rest : piece_len (drop count (drop from body)) ≡ piece_len (drop (from + count) body) = ap piece_len (drop-drop count from body) in
    (omega arith, omega (arith, high), omega (arith, goes, rest))

pub returns-in-None-clause-none : goal.returns-in-None-clause-none
returns-in-None-clause-none c =
    let body = c.args.body.now in
    let from = c.args.from in
    let len = length-drop from body in
    let hay = hay-length body from in
    let goes = no-cr (drop from body) (length body - from) (omega (arith, len))
    (λ k below. none-found (is_byte 13) body from (length (take (length body - from) (drop from body))) c.in-None.ensures k (omega (arith, hay, below))) in
    let none_left = len-within (drop (length body - from) (drop from body)) in
    let left = length-drop (length body - from) (drop from body) in
    omega (arith, goes, c.requires, none_left, left, len)
