use Rattle.std.proofs.Common.{◌≡◌, ℕ, ◌+◌, ◌-◌, ◌<◌, ◌≤◌, ◌++◌, [], take, drop, subst, ◌∙◌, arith, length-drop, length-append}
use Rattle.std.proofs.lemmas.Bool.Decides.{nat_tests}
use Rattle.std.proofs.lemmas.List.{length-take-le}
use Rattle.beep_input.specs.Listing.{Holds}
use Rattle.beep_input.proofs.FedLemmas.{fed_more, fed_none, is_starved}
use Rattle.beep_input.proofs.lines.gather.Goals as goal

pub loop-left-init : goal.loop-left-init
loop-left-init g c = record {
  within = omega arith;
  room = c.requires.room;
  octets = [];
  fed = fed_none c.args.gathered.now _ c.requires.none;
  left = omega arith;
  going = c.requires.going;
  reads = omega arith;
}

pub returns-in_default-clause-err : goal.returns-in_default-clause-err
returns-in_default-clause-err g c =
    let held = c.loop-left.invariant in
    let buffer = c.read_at.new.buf in
    let at : ℕ = 65536 - c.min-at.result in
    let n : ℕ = c.in-Ok.n in
    let fits : n ≤ c.loop-left.left = omega (arith, c.in-Ok.ensures.fits, c.in-Ok.ensures.length, held.room, c.min-at.ensures, c.loop-left-test.true) in
    let count = length-take-le n (drop at buffer) (omega (arith, length-drop at buffer, c.in-Ok.ensures.fits)) in
    is_starved held.octets (take n (drop at buffer)) c.loop-left.gathered (g.I.Source.state c.args.input.now) (g.I.Source.state c.loop-left.input) (g.I.Source.state c.read_at.new.input) held.fed c.in-Ok.ensures.octets (omega (arith, held.left, fits, count))

pub loop-left-preserved : goal.loop-left-preserved
loop-left-preserved g c =
    let held = c.loop-left.invariant in
    let buffer = c.read_at.new.buf in
    let at : ℕ = 65536 - c.min-at.result in
    let n : ℕ = c.in-Ok.n in
    let fits : n ≤ c.loop-left.left = omega (arith, c.in-Ok.ensures.fits, c.in-Ok.ensures.length, held.room, c.min-at.ensures, c.loop-left-test.true) in
    let count = length-take-le n (drop at buffer) (omega (arith, length-drop at buffer, c.in-Ok.ensures.fits)) in
    let same : (at + n) - at ≡ n = omega arith in
    let some : 0 < n = omega (arith, c.in-Ok.n-test) in
    let holds : Holds (held.octets ++ take n (drop at buffer)) c.feed.new.self =
    subst (λ (k : ℕ). Holds (held.octets ++ take k (drop at buffer)) c.feed.new.self) same (c.in-Ok-feed.ensures.held held.octets held.fed.holds) in
    record {
      within = omega (arith, held.within);
      room = c.in-Ok.ensures.length ∙ held.room;
      octets = held.octets ++ take n (drop at buffer);
      fed = fed_more held.octets (take n (drop at buffer)) c.loop-left.gathered c.feed.new.self _ _ _ held.fed c.in-Ok.ensures.octets (omega (arith, held.left, fits, count)) c.in-Ok.ensures.kept holds;
      left = omega (arith, held.left, fits, count, length-append held.octets (take n (drop at buffer)));
      going = c.in-Ok.ensures.end ∙ grind (arith, nat_tests, some);
      reads = omega (arith, held.reads, c.in-Ok.ensures.counted, some, fits);
    }
