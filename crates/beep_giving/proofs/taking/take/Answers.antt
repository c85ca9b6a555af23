-- The part is that of the channel, and what is let go leaves it.
use Rattle.beep_peer.specs.beep_lives.specs.Edits.{Takes}
use Rattle.beep_giving.proofs.ChangeLemmas.{edits-both}
use Rattle.beep_giving.proofs.TakenLemmas.{holds-taken, still-held, takes-marks, part-counts, let-go-then}
use Rattle.beep_giving.proofs.UprightLemmas.{taken-upright}
use Rattle.beep_giving.proofs.taking.take.Goals as goal

pub let_go-requires : goal.let_go-requires
let_go-requires c = record {
  held = still-held c.args.number c.args.peer.now c.take.new.self c.requires.above c.in-Some.part c.args.buf.now c.take.new.buf c.in-Some.ensures.some c.requires.held;
}

pub returns-clause-some : goal.returns-clause-some
returns-clause-some c size fed rest journal given taken s =
    takes-marks c.args.number c.args.peer.now c.take.new.self c.requires.above c.in-Some.part c.args.buf.now c.take.new.buf c.in-Some.ensures.some c.let_go.new.lives
    c.let_go.new.management c.let_go.ensures.kept size fed rest journal given taken s c.let_go.ensures.holds c.let_go.ensures.waits

pub returns-clause-counts : goal.returns-clause-counts
returns-clause-counts c =
    part-counts c.args.number c.args.peer.now c.take.new.self c.requires.above c.in-Some.part c.args.buf.now c.take.new.buf c.in-Some.ensures.some c.let_go.new.lives
    c.let_go.new.management c.let_go.ensures.kept c.requires.held

pub returns-clause-waits : goal.returns-clause-waits
returns-clause-waits c = let-go-then c.take.new.self c.let_go.new.lives c.args.peer.now.management c.let_go.ensures.kept c.let_go.new.management c.let_go.ensures.waits

pub returns-clause-others : goal.returns-clause-others
returns-clause-others c =
    edits-both c.args.number (Takes c.in-Some.part c.args.buf.now c.take.new.buf) c.args.peer.now.lives c.take.new.self c.in-Some.ensures.some c.let_go.new.lives c.let_go.ensures.kept

pub returns-clause-upright : goal.returns-clause-upright
returns-clause-upright c = λ terms fed rest journal given taken s u.
    let h = holds-taken terms.window c.args.number journal given taken c.args.peer.now.lives c.take.new.self c.args.peer.now.management c.requires.above s.holds c.in-Some.part c.args.buf.now
    c.take.new.buf c.in-Some.ensures.some in
    c.let_go.ensures.upright terms journal given _ h
    (taken-upright terms c.args.number journal given taken c.args.peer.now.lives c.take.new.self c.args.peer.now.management c.requires.above c.in-Some.part c.take.new.buf s.holds h u)
