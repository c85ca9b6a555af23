-- A run of octets is written at once, and then the octet after it.
use Rattle.std.proofs.Common.{◌∙◌, ℕ, ◌++◌, List, get_or, ap, arith}
use Rattle.std.specs.List.{slice_range}
use Rattle.prof_raw.specs.Line.{octet_written}
use Rattle.prof_raw.proofs.PlainLemmas.{grown, grown-by-one, range-length}
use Rattle.prof_raw.proofs.line.put_octets.Goals as goal

pub loop-at-preserved-then-at-octets : goal.loop-at-preserved-then-at-octets
loop-at-preserved-then-at-octets c =
    let octets = c.args.octets.now in
    let at = c.loop-at.at in
    let end = c.plain_end-end.result in
    let long = range-length octets at end c.plain_end-end.ensures.place.1 in
    record {
      written = c.put_octet.ensures.appended
          ∙ ap (λ (o : List ℕ). o ++ octet_written (get_or octets end 0))
          (c.extend_spare.ensures.appended ∙ ap (λ (o : List ℕ). o ++ slice_range octets at end) c.loop-at.invariant.written
          ∙ grown octets c.args.out.now.octets at end c.plain_end-end.ensures.place.0 c.plain_end-end.ensures.plain)
          ∙ grown-by-one octets c.args.out.now.octets end c.if-at-octets.true;
      room = omega (arith, c.loop-at.invariant.room, c.extend_spare.ensures.room, c.put_octet.ensures.room, long, c.plain_end-end.ensures.place.0);
      within = omega (arith, c.if-at-octets.true);
    }

pub loop-at-preserved : goal.loop-at-preserved
loop-at-preserved c =
    let octets = c.args.octets.now in
    let at = c.loop-at.at in
    let end = c.plain_end-end.result in
    let long = range-length octets at end c.plain_end-end.ensures.place.1 in
    record {
      written = c.extend_spare.ensures.appended ∙ ap (λ (o : List ℕ). o ++ slice_range octets at end) c.loop-at.invariant.written
          ∙ grown octets c.args.out.now.octets at end c.plain_end-end.ensures.place.0 c.plain_end-end.ensures.plain;
      room = omega (arith, c.loop-at.invariant.room, c.extend_spare.ensures.room, long, c.plain_end-end.ensures.place.0);
      within = c.plain_end-end.ensures.place.1;
    }
