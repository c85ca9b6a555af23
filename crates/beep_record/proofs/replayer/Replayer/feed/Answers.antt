use Rattle.std.proofs.Common.{List, take, sym, ap, subst, ◌∙◌, arith, length-take, length-drop}
use Rattle.std.proofs.lemmas.List.{take_rest}
use Rattle.beep_journal.specs.Log.{Moment}
use Rattle.beep_record.specs.Replaying.{Follows, many}
use Rattle.beep_record.proofs.ReplayLemmas.{many_more, stopped_at, on_err}
use Rattle.beep_record.proofs.replayer.Replayer.feed.Goals as goal

pub take-requires-clause-follows : goal.take-requires-clause-follows
take-requires-clause-follows c =
    let has = c.requires.follows in
    record { log = many c.args.side (take c.loop-at.at c.args.octets.now) has.log; old = has.old; follows = c.loop-at.invariant.follows has.log has.old has.follows }

pub returns-in_err-count-clause-err : goal.returns-in_err-count-clause-err
returns-in_err-count-clause-err c log old follows =
    on_err c.from_residual.result
    (stopped_at c.loop-at.self c.args.side c.args.octets.now c.loop-at.at log old c.loop-at.out.octets c.take.new.out.octets c.in_err-count.ensures.err (c.loop-at.invariant.follows log old follows))

pub loop-at-preserved : goal.loop-at-preserved
loop-at-preserved c =
    let octets = c.args.octets.now in
    let i = c.loop-at.at in
    let count = c.in_ok-count.count in
    record {
      within = grind (arith, length-take, length-drop, c.in_ok-count.ensures.within);
      follows = λ log old follows.
          subst (λ (x : List Moment). Follows c.take.new.self x old c.take.new.out.octets)
          (ap (λ x. many c.args.side (take count x) (many c.args.side (take i octets) log)) (take_rest octets i) ∙ sym (many_more c.args.side octets i count log c.loop-at.invariant.within))
          (c.in_ok-count.ensures.ok (many c.args.side (take i octets) log) old (c.loop-at.invariant.follows log old follows));
    }
