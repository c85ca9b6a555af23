use Rattle.std.proofs.Common.{◌≡◌, ◌<◌, ◌≤◌, ◌==◌, true, false, [], length, refl, arith, ◌∙◌, length-take}
use Rattle.std.proofs.KnownBytes.{Consumes-kept, Consumes-nil}
use Rattle.std.proofs.lemmas.Bool.Decides.{nat_tests}
use Rattle.beep_frame.specs.Fed.{fed_of}
use Rattle.beep_show.proofs.GoLemmas.{went_none, went_ended, went_fault, passed_none, passed_some, rose_later, short_piece}
use Rattle.beep_show.proofs.showing.list_input.Goals as goal

pub loop-left-init : goal.loop-left-init
loop-left-init g c =
    (omega arith, c.requires.going, omega arith, omega arith, omega arith, λ elements r. went_none (record { elements = elements; octets = c.args.octets }) c.args.lister.now _ _ r)

pub returns-in-Ok-eq0-clause-goes : goal.returns-in-Ok-eq0-clause-goes
returns-in-Ok-eq0-clause-goes g c = λ elements r.
    let none = rw c.in-Ok-eq0.field-0-test at c.in-Ok-eq0.ensures.octets.0 in
    let end : (c.in-Ok-eq0.field-0 == 0) ≡ true = grind (arith, nat_tests, c.in-Ok-eq0.field-0-test) in
    let room : 0 < length c.read.new.buf = omega (arith, c.read.auto.buf, length-take c.min-room.result c.loop-left.buf) in
    let w = went_ended (record { elements = elements; octets = c.args.octets }) c.loop-left.lister _ _ _ _ _ c.loop-left.left c.read.new.buf c.loop-left.invariant.0 (omega arith) (c.loop-left.invariant.5 elements r) none in
    ((c.in-Ok-eq0.ensures.end ∙ end, c.in-Ok-eq0.ensures.octets.1 c.in-Ok-eq0.field-0-test room), (w.0, w.1, w.2))

pub returns-in-Some-clause-goes : goal.returns-in-Some-clause-goes
returns-in-Some-clause-goes g c = λ elements r.
    let on = c.loop-left.invariant.5 elements r in
    let some : c.in-Ok.n ≤ length c.read.new.buf = omega (arith, c.in-Ok.ensures.within, c.read.auto.buf, length-take c.min-room.result c.loop-left.buf) in
    let few : c.in-Ok.n ≤ c.loop-left.left = omega (arith, c.in-Ok.ensures.within, c.read.auto.buf, length-take c.min-room.result c.loop-left.buf) in
    passed_some (record { elements = elements; octets = c.args.octets }) c.loop-left.lister c.pass.new.lister _ (g.I.Source.state c.loop-left.input) _ _ (g.O.Sink.state c.loop-left.output) _ c.loop-left.left on c.read.new.buf _ c.in-Ok.n some few c.in-Ok.ensures.octets.0 c.in-Some.ending c.loop-left.invariant.4 (c.in-Some.ensures.passes elements (fed_of on.went.octets on.went.frames on.went.rest on.went.known) on.went.reads (short_piece c.read.new.buf _ c.in-Ok.n (omega (arith, c.in-Ok.ensures.within, c.read.auto.buf, length-take c.min-room.result c.loop-left.buf))))

pub loop-left-preserved : goal.loop-left-preserved
loop-left-preserved g c =
    let going : (c.in-Ok.n == 0) ≡ false = grind (arith, nat_tests, c.in-Ok.n-test) in (
      omega arith,
      c.in-Ok.ensures.end ∙ going,
      omega (arith, c.in-Ok.ensures.counted, c.in-Ok.ensures.within, c.read.auto.buf, length-take c.min-room.result c.loop-left.buf),
      omega arith,
      omega arith,
      λ elements r.
          let on = c.loop-left.invariant.5 elements r in
          let some : c.in-Ok.n ≤ length c.read.new.buf = omega (arith, c.in-Ok.ensures.within, c.read.auto.buf, length-take c.min-room.result c.loop-left.buf) in
          let few : c.in-Ok.n ≤ c.loop-left.left = omega (arith, c.in-Ok.ensures.within, c.read.auto.buf, length-take c.min-room.result c.loop-left.buf) in
          passed_none (record { elements = elements; octets = c.args.octets }) c.loop-left.lister c.pass.new.lister (g.I.Source.state c.args.input.now) (g.I.Source.state c.loop-left.input) (g.I.Source.state c.read.new.self) (g.O.Sink.state c.args.output.now) (g.O.Sink.state c.loop-left.output) (g.O.Sink.state c.pass.new.output) c.loop-left.left on c.read.new.buf _ c.in-Ok.n some few c.in-Ok.ensures.octets.0 (c.in_default.ensures.passes elements (fed_of on.went.octets on.went.frames on.went.rest on.went.known) on.went.reads (short_piece c.read.new.buf _ c.in-Ok.n (omega (arith, c.in-Ok.ensures.within, c.read.auto.buf, length-take c.min-room.result c.loop-left.buf)))),
    )

pub returns-in-Err-clause-goes : goal.returns-in-Err-clause-goes
returns-in-Err-clause-goes g c = λ elements r.
    let w = went_fault (record { elements = elements; octets = c.args.octets }) c.loop-left.lister _ _ _ _ _ c.loop-left.left (omega arith) (c.loop-left.invariant.5 elements r) (Consumes-kept _ _ _ [] (Consumes-nil _) c.in-Err.ensures.octets) in
    (rose_later _ _ _ c.loop-left.invariant.3 c.in-Err.ensures.failed, (w.0, w.1))

pub returns-clause-goes : goal.returns-clause-goes
returns-clause-goes g c = λ elements r.
    let on = c.loop-left.invariant.5 elements r in
    (c.loop-left.invariant.1, refl, (on.went, omega (arith, on.counts)))
