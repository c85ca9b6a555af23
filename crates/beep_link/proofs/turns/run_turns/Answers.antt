-- The log tells what ended the session.
use Rattle.std.proofs.Common.{rules, ℕ, List, ◌∙◌, [], arith, subst, sym}
use Rattle.beep_link.specs.Causes.{ReadsWhere, WhereKnown, WithText}
use Rattle.beep_link.specs.declared.ended.Ended.{Ended}
use Rattle.beep_link.proofs.KeepLemmas.{Keeps-trans}
use Rattle.beep_link.proofs.StandLemmas.{grown-more, text-more, text-none, known-empty, known-text, unread-bounded}
use Rattle.beep_link.proofs.turns.run_turns.Goals as goal

pub returns-in-Err-clause-caused : goal.returns-in-Err-clause-caused
returns-in-Err-clause-caused g c =
    let W = g.W.Wires in
    let i = c.loop-ended.invariant in c.in-Err.ensures.caused (W.state c.args.wires.now c.args.link) (W.counts c.args.wires.now).quiets i.unfailed i.counted i.came

pub returns-in-Err-clause-grew : goal.returns-in-Err-clause-grew
returns-in-Err-clause-grew g c = grown-more _ (g.O.Sink.state c.loop-ended.output).written _ c.loop-ended.invariant.grew c.turn.ensures.grew

pub returns-in-Err-clause-shown : goal.returns-in-Err-clause-shown
returns-in-Err-clause-shown g c begun =
    let E = g.E.End in
    let before = (g.O.Sink.state c.args.output.now).written in
    let mid = (g.O.Sink.state c.loop-ended.output).written in
    let now = (g.O.Sink.state c.turn.new.output).written in
    let old = (g.W.Wires.state c.loop-ended.wires c.args.link).log in
    let new = (g.W.Wires.state c.turn.new.wires c.args.link).log in
    let ended = c.in-Err.ended in
    subst (λ t. WhereKnown (λ log. WithText before now (E.tells t ended log)) new) c.loop-ended.invariant.terms
    (known-text before now (E.tells (E.terms c.loop-ended.end) ended) new
    (text-more before mid now (λ text. WhereKnown (λ log. E.stands c.loop-ended.end log [] text) old) (λ text. WhereKnown (λ log. E.tells (E.terms c.loop-ended.end) ended log text) new)
    (λ text k. c.in-Err.ensures.stopped text k) (c.loop-ended.invariant.stands begun)))

pub returns-in-Err-clause-waits : goal.returns-in-Err-clause-waits
returns-in-Err-clause-waits g c begun =
    let E = g.E.End in
    subst (λ t. WhereKnown (ReadsWhere (λ log. (text : List ℕ) × E.tells t (Ended.Idle 0) log text)) (g.W.Wires.state c.turn.new.wires c.args.link).log) c.loop-ended.invariant.terms
    (c.turn.ensures.waits (c.loop-ended.invariant.stands begun).0 (c.loop-ended.invariant.stands begun).2
    (subst (λ t. WhereKnown (ReadsWhere (λ log. (text : List ℕ) × E.tells t (Ended.Idle 0) log text)) (g.W.Wires.state c.loop-ended.wires c.args.link).log) (sym c.loop-ended.invariant.terms) (c.loop-ended.invariant.waits begun)))

pub returns-in_default-clause-waits : goal.returns-in_default-clause-waits
returns-in_default-clause-waits g c begun =
    let E = g.E.End in
    known-empty (ReadsWhere (λ log. (text : List ℕ) × E.tells (E.terms c.args.end.now) (Ended.Idle 0) log text)) (g.W.Wires.state c.args.wires.now c.args.link).log tt c.requires.unused.unread

pub returns-in_default-clause-shown : goal.returns-in_default-clause-shown
returns-in_default-clause-shown g c begun =
    let E = g.E.End in
    let now = (g.O.Sink.state c.args.output.now).written in
    let h : WhereKnown (λ log. WithText now now (E.tells (E.terms c.args.end.now) Ended.NoMemory log)) (g.W.Wires.state c.args.wires.now c.args.link).log =
    known-empty (λ log. WithText now now (E.tells (E.terms c.args.end.now) Ended.NoMemory log)) (g.W.Wires.state c.args.wires.now c.args.link).log
    (text-none now (E.tells (E.terms c.args.end.now) Ended.NoMemory []) (g.met.E.End.stops c.args.end.now [] [] [] Ended.NoMemory tt begun)) c.requires.unused.unread in
    search (rules, h)

pub returns-in_default-clause-bounded : goal.returns-in_default-clause-bounded
returns-in_default-clause-bounded g c = unread-bounded c.args.reads (g.W.Wires.state c.args.wires.now c.args.link).log c.requires.unused.unread

pub returns-in-Err-clause-bounded : goal.returns-in-Err-clause-bounded
returns-in-Err-clause-bounded g c = c.turn.ensures.bounded c.loop-ended.invariant.bounded

pub loop-ended-preserved : goal.loop-ended-preserved
loop-ended-preserved g c = record {
  between = c.turn.ensures.between;
  terms = c.turn.ensures.terms ∙ c.loop-ended.invariant.terms;
  stands = λ begun.
      let E = g.E.End in
      text-more (g.O.Sink.state c.args.output.now).written (g.O.Sink.state c.loop-ended.output).written (g.O.Sink.state c.turn.new.output).written
      (λ text. WhereKnown (λ log. E.stands c.loop-ended.end log [] text) (g.W.Wires.state c.loop-ended.wires c.args.link).log) (λ text. WhereKnown (λ log. E.stands c.turn.new.end log [] text) (g.W.Wires.state c.turn.new.wires c.args.link).log)
      (λ text k. c.in-Ok-turn.ensures.stands text k) (c.loop-ended.invariant.stands begun);
  waits = λ begun.
      let E = g.E.End in
      subst (λ t. WhereKnown (ReadsWhere (λ log. (text : List ℕ) × E.tells t (Ended.Idle 0) log text)) (g.W.Wires.state c.turn.new.wires c.args.link).log) c.loop-ended.invariant.terms
      (c.turn.ensures.waits (c.loop-ended.invariant.stands begun).0 (c.loop-ended.invariant.stands begun).2
      (subst (λ t. WhereKnown (ReadsWhere (λ log. (text : List ℕ) × E.tells t (Ended.Idle 0) log text)) (g.W.Wires.state c.loop-ended.wires c.args.link).log) (sym c.loop-ended.invariant.terms) (c.loop-ended.invariant.waits begun)));
  going = c.in-Ok-turn.ensures.going;
  shown = c.in-Ok-turn.ensures.shown;
  bounded = c.turn.ensures.bounded c.loop-ended.invariant.bounded;
  counted = c.in-Ok-turn.ensures.counted _ c.loop-ended.invariant.counted;
  came = c.in-Ok-turn.ensures.came _ c.loop-ended.invariant.came;
  keeps = Keeps-trans c.args.link _ _ _ c.loop-ended.invariant.keeps c.turn.ensures.keeps;
  grew = grown-more _ (g.O.Sink.state c.loop-ended.output).written _ c.loop-ended.invariant.grew c.turn.ensures.grew;
  unfailed = c.loop-ended.invariant.unfailed ∙ sym c.in-Ok-turn.ensures.unfailed;
  kept = omega (arith, c.loop-ended.invariant.kept, c.turn.ensures.kept);
  reads = omega (arith, c.loop-ended.invariant.reads, c.turn.ensures.reads, c.in-Ok-turn.ensures.falls);
}
