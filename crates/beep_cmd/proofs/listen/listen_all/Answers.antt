use Rattle.std.proofs.Common.{◌≡◌, ℕ, ◌+◌, ◌≤◌, false, inl, inr, sym, ap, ◌∙◌, subst, arith}
use Rattle.beep_runs.specs.beep_link.specs.declared.ended.Ended.{Ended}
use Rattle.beep_runs.specs.beep_link.specs.Causes.{Seen, WhereKnown}
use Rattle.beep_runs.specs.beep_link.proofs.StandLemmas.{grown-more}
use Rattle.beep_runs.specs.beep_journal.specs.declared.role.Role.{Role}
use Rattle.beep_runs.specs.beep_steps.specs.Logs.{IsLawfulOn, terms_by}
use Rattle.beep_cmd.specs.Ends.{AsksOnly, ends_run, IsAcceptOf, most_reads, open_of, SessionCause, seen_of}
use Rattle.beep_cmd.specs.Serving.{AsksGave}
use Rattle.beep_cmd.proofs.EndsLemmas.{rose_later}
use Rattle.beep_cmd.proofs.ListenLemmas.{all_lines, lines_ended, lines_further, lines_unlinked}
use Rattle.beep_cmd.proofs.ServingLemmas.{asks_fewer, asks_then, gave_more, gave_only, each_joined, joined_cause, first_goes, goes_further, open-alone}
use Rattle.beep_cmd.proofs.listen.listen_all.Goals as goal

pub returns-then-ends_run-clause-asks : goal.returns-then-ends_run-clause-asks
returns-then-ends_run-clause-asks g c =
    let W = g.W.Wires in
    let before : Seen = seen_of (W.state c.args.wires.now) (W.counts c.args.wires.now) (W.asked c.args.wires.now) (W.lent c.args.wires.now) in
    let P = IsAcceptOf c.args.settings.now (open_of before) in
    asks_fewer P (c.loop.counter + 1) c.args.settings.now.sessions _ _ (omega (arith, c.loop-test.true)) (gave_only P (c.loop.counter + 1) _ _ (gave_more P c.loop.counter 1 _ _ _ c.loop.invariant.asks
    (subst (λ (n : ℕ). AsksGave (IsAcceptOf c.args.settings.now n) 1 (W.asked c.loop.wires) (W.asked c.listen_once.new.wires)) (open-alone before _ c.loop.invariant.goes_on c.loop.invariant.shut) c.in-Ok.ensures.served.asks)))

pub returns-in-Err-clause-asks : goal.returns-in-Err-clause-asks
returns-in-Err-clause-asks g c =
    let W = g.W.Wires in
    let before : Seen = seen_of (W.state c.args.wires.now) (W.counts c.args.wires.now) (W.asked c.args.wires.now) (W.lent c.args.wires.now) in
    let P = IsAcceptOf c.args.settings.now (open_of before) in
    asks_fewer P (c.loop.counter + 1) c.args.settings.now.sessions _ _ (omega (arith, c.loop-test.true)) (asks_then P c.loop.counter 1 _ _ _ c.loop.invariant.asks
    (subst (λ (n : ℕ). AsksOnly (IsAcceptOf c.args.settings.now n) 1 (W.asked c.loop.wires) (W.asked c.listen_once.new.wires)) (open-alone before _ c.loop.invariant.goes_on c.loop.invariant.shut) c.in-Err.ensures.failed.asks))

pub returns-clause-asks : goal.returns-clause-asks
returns-clause-asks g c =
    let W = g.W.Wires in
    let before : Seen = seen_of (W.state c.args.wires.now) (W.counts c.args.wires.now) (W.asked c.args.wires.now) (W.lent c.args.wires.now) in
    let P = IsAcceptOf c.args.settings.now (open_of before) in
    asks_fewer P c.loop.counter c.args.settings.now.sessions _ _ (omega (arith, c.loop.invariant.given, c.loop-test.false)) (gave_only P c.loop.counter _ _ c.loop.invariant.asks)

pub returns-then-ends_run-clause-grew : goal.returns-then-ends_run-clause-grew
returns-then-ends_run-clause-grew g c = grown-more _ (g.O.Sink.state c.loop.output).written _ c.loop.invariant.grew c.in-Ok.ensures.grew

pub returns-in-Err-clause-grew : goal.returns-in-Err-clause-grew
returns-in-Err-clause-grew g c = grown-more _ (g.O.Sink.state c.loop.output).written _ c.loop.invariant.grew c.in-Err.ensures.grew

pub returns-then-ends_run-clause-lines : goal.returns-then-ends_run-clause-lines
returns-then-ends_run-clause-lines g c =
    let W = g.W.Wires in
    let O = g.O.Sink in
    let settings = c.args.settings.now in
    let before : Seen = seen_of (W.state c.args.wires.now) (W.counts c.args.wires.now) (W.asked c.args.wires.now) (W.lent c.args.wires.now) in
    let mid : Seen = seen_of (W.state c.loop.wires) (W.counts c.loop.wires) (W.asked c.loop.wires) (W.lent c.loop.wires) in
    let after : Seen = seen_of (W.state c.listen_once.new.wires) (W.counts c.listen_once.new.wires) (W.asked c.listen_once.new.wires) (W.lent c.listen_once.new.wires) in
    let i = c.loop.invariant in
    let s = c.in-Ok.ensures.served in
    lines_ended settings before mid after c.loop.first c.in-Ok.ended (O.state c.args.output.now).written (O.state c.loop.output).written (O.state c.listen_once.new.output).written i.goes s.goes_on
    i.lines s.one c.in-Ok.ensures.lines (sym c.ends_run.ensures ∙ c.if-ends_run.true)

pub returns-in-Err-clause-lines : goal.returns-in-Err-clause-lines
returns-in-Err-clause-lines g c =
    let W = g.W.Wires in
    let O = g.O.Sink in
    let settings = c.args.settings.now in
    let before : Seen = seen_of (W.state c.args.wires.now) (W.counts c.args.wires.now) (W.asked c.args.wires.now) (W.lent c.args.wires.now) in
    let mid : Seen = seen_of (W.state c.loop.wires) (W.counts c.loop.wires) (W.asked c.loop.wires) (W.lent c.loop.wires) in
    let after : Seen = seen_of (W.state c.listen_once.new.wires) (W.counts c.listen_once.new.wires) (W.asked c.listen_once.new.wires) (W.lent c.listen_once.new.wires) in
    let i = c.loop.invariant in
    let n = c.in-Err.ensures.failed in
    lines_unlinked settings before mid after c.loop.first c.in-Err.ended (O.state c.args.output.now).written (O.state c.loop.output).written (O.state c.listen_once.new.output).written i.goes n.goes_on
    i.lines n.none (ap (λ o. (O.state o).written) c.in-Err.ensures.same_output) c.in-Err.ended
    (elim n.failed [ inl wire ↦ inl (wire.0, rose_later before.counts.accepts mid.counts.accepts after.counts.accepts i.goes_on.accepts wire.1) | inr short ↦ inr (short, inl (omega (arith, n.none, i.given, c.loop-test.true))) ])

pub returns-clause-lines : goal.returns-clause-lines
returns-clause-lines g c =
    let W = g.W.Wires in
    let O = g.O.Sink in
    let settings = c.args.settings.now in
    let before : Seen = seen_of (W.state c.args.wires.now) (W.counts c.args.wires.now) (W.asked c.args.wires.now) (W.lent c.args.wires.now) in
    let mid : Seen = seen_of (W.state c.loop.wires) (W.counts c.loop.wires) (W.asked c.loop.wires) (W.lent c.loop.wires) in
    all_lines settings before mid c.loop.first (O.state c.args.output.now).written (O.state c.loop.output).written (omega (arith, c.loop.invariant.given, c.loop-test.false)) c.loop.invariant.lines

pub loop-preserved : goal.loop-preserved
loop-preserved g c =
    let W = g.W.Wires in
    let settings = c.args.settings.now in
    let before : Seen = seen_of (W.state c.args.wires.now) (W.counts c.args.wires.now) (W.asked c.args.wires.now) (W.lent c.args.wires.now) in
    let mid : Seen = seen_of (W.state c.loop.wires) (W.counts c.loop.wires) (W.asked c.loop.wires) (W.lent c.loop.wires) in
    let after : Seen = seen_of (W.state c.listen_once.new.wires) (W.counts c.listen_once.new.wires) (W.asked c.listen_once.new.wires) (W.lent c.listen_once.new.wires) in
    let s = c.in-Ok.ensures.served in
    let i = c.loop.invariant in
    let goes : ends_run c.in-Ok.ended ≡ false = sym c.ends_run.ensures ∙ c.if-ends_run.false in
    record {
      goes_on = goes_further before mid after i.goes_on s.goes_on;
      given = omega (arith, s.one, i.given);
      cause = subst (λ (e : Ended). SessionCause e Role.Listener settings before after) (sym c.first_of-first.ensures)
          (joined_cause before mid after i.goes_on s.goes_on Role.Listener settings c.loop.first c.in-Ok.ended i.cause s.cause_is);
      lawful = each_joined before mid after i.goes_on s.goes_on (λ link. WhereKnown (IsLawfulOn (terms_by Role.Listener settings)) link.log) i.lawful c.in-Ok.ensures.lawful;
      shut = each_joined before mid after i.goes_on s.goes_on (λ link. link.is_open ≡ false) i.shut c.in-Ok.ensures.shut;
      reads = each_joined before mid after i.goes_on s.goes_on (λ link. link.reads ≤ most_reads settings) i.reads c.in-Ok.ensures.link_reads;
      goes = ap ends_run c.first_of-first.ensures ∙ first_goes c.loop.first c.in-Ok.ended i.goes goes;
      lines = lines_further settings before mid after c.loop.first c.in-Ok.ended (g.O.Sink.state c.args.output.now).written (g.O.Sink.state c.loop.output).written (g.O.Sink.state c.listen_once.new.output).written i.goes s.goes_on
          i.lines s.one c.in-Ok.ensures.lines c.first_of-first.result c.first_of-first.ensures goes;
      asks = gave_more (IsAcceptOf settings (open_of before)) c.loop.counter 1 before.asked mid.asked after.asked i.asks
          (subst (λ (n : ℕ). AsksGave (IsAcceptOf settings n) 1 mid.asked after.asked) (open-alone before mid i.goes_on i.shut) s.asks);
      grew = grown-more _ (g.O.Sink.state c.loop.output).written _ i.grew c.in-Ok.ensures.grew;
      kept = omega (arith, i.kept, c.in-Ok.ensures.kept);
    }
