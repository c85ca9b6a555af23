use Rattle.std.proofs.Common.{◌≡◌, ◌++◌, arith, ap, sym, ◌∙◌, subst}
use Rattle.std.specs.Io.KnownBytes.{Appends}
use Rattle.beep_wires.specs.Transfer.{AppendsPrefix}
use Rattle.beep_show.specs.Show.{Shown, run_of}
use Rattle.beep_show.specs.LastLine.{last_line}
use Rattle.beep_show.proofs.EndLemmas.{finished, unfinished, cut_short, starved, clear_at, status_of-memory}
use Rattle.beep_show.proofs.showing.finish.Goals as goal

pub returns-in-WriteFault-clause-finishes : goal.returns-in-WriteFault-clause-finishes
returns-in-WriteFault-clause-finishes g c = λ settings from to before small le w.
    let short = rw c.in-WriteFault.is at w in
    cut_short settings from to before _ short.0 short.1

pub returns-in-NoMemory-clause-finishes : goal.returns-in-NoMemory-clause-finishes
returns-in-NoMemory-clause-finishes g c = λ settings from to before small le w.
    let first = rw c.in-NoMemory.is at w in
    starved settings from to before _ first.1

pub returns-in-Ok : goal.returns-in-Ok
returns-in-Ok g c = record {
  finishes = λ settings from to before small le w.
      let clear = clear_at settings c.args.ending c.args.lister.now from to before _ c.in_default.not-WriteFault c.in_default-ending.not-NoMemory w in
      let text : c.append_last-status.new.out.octets ≡ last_line c.args.ending c.args.lister.now.frames c.left-left.result = c.append_last-status.ensures.appended (omega (arith, clear.room)) ∙ ap (λ x. x ++ last_line c.args.ending c.args.lister.now.frames c.left-left.result) clear.none in
      let written = subst (λ x. Appends (g.O.Sink.state c.args.output.now).written (g.O.Sink.state c.write_all.new.sink).written x) (c.as_slice.ensures ∙ text) c.in-Ok.ensures.appended in
      subst (λ x. Shown settings x (run_of from to before (g.O.Sink.state c.write_all.new.sink))) (sym c.append_last-status.ensures.status) (finished settings (omega (arith, small)) c.args.lister.now c.left-left.result (λ fed holds. c.left-left.ensures.stands fed holds.stands) from to before (g.O.Sink.state c.args.output.now) c.args.ending _ c.in_default.not-WriteFault c.in_default-ending.not-NoMemory w written);
  answers = λ e. status_of-memory c.args.ending c.left-left.result (sym c.append_last-status.ensures.status ∙ e);
}

pub returns-in-Err : goal.returns-in-Err
returns-in-Err g c = record {
  finishes = λ settings from to before small le w.
      let clear = clear_at settings c.args.ending c.args.lister.now from to before _ c.in_default.not-WriteFault c.in_default-ending.not-NoMemory w in
      let text : c.append_last-status.new.out.octets ≡ last_line c.args.ending c.args.lister.now.frames c.left-left.result = c.append_last-status.ensures.appended (omega (arith, clear.room)) ∙ ap (λ x. x ++ last_line c.args.ending c.args.lister.now.frames c.left-left.result) clear.none in
      let written = subst (λ x. AppendsPrefix (g.O.Sink.state c.args.output.now).written (g.O.Sink.state c.write_all.new.sink).written x) (c.as_slice.ensures ∙ text) c.in-Err.ensures.prefix in
      unfinished settings (omega (arith, small)) c.args.lister.now c.left-left.result (λ fed holds. c.left-left.ensures.stands fed holds.stands) from to before (g.O.Sink.state c.args.output.now) c.args.ending _ c.in_default.not-WriteFault c.in_default-ending.not-NoMemory le w c.in-Err.ensures.failed written;
  answers = λ e. absurd (omega arith);
}
