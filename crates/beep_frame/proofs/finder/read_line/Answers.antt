use Rattle.std.proofs.Common.{arith, get_or, refl, ◌∙◌, sym, subst}
use Rattle.beep_frame.specs.Line.{IsTurn}
use Rattle.beep_frame.proofs.RunLemmas.{run_more, takes}
use Rattle.beep_frame.proofs.finder.read_line.Goals as goal

pub returns-in_default : goal.returns-in_default
returns-in_default c =
    let more = run_more c.args.line.now c.loop-i.line c.args.bytes.now c.loop-i.i (get_or c.args.bytes.now c.loop-i.i 0) (omega arith) refl c.loop-i.invariant in
    record { within = omega arith; turn = subst (IsTurn c.turn-found.result c.turn-found.new.self) (sym more) c.turn-found.ensures; used = takes c.turn-found.result c.args.line.now c.loop-i.line c.turn-found.new.self _ c.args.bytes.now c.loop-i.i c.turn-found.ensures c.in_default.not-More c.loop-i.invariant }

pub loop-i-preserved : goal.loop-i-preserved
loop-i-preserved c =
    run_more c.args.line.now c.loop-i.line c.args.bytes.now c.loop-i.i (get_or c.args.bytes.now c.loop-i.i 0) (omega arith) refl c.loop-i.invariant ∙ sym (rw c.in-More.is at c.turn-found.ensures)
