-- A frame that stands whole, for every journal for which the ear stands.
use Rattle.std.proofs.Common.{◌+◌, take, sym, ap}
use Rattle.std.proofs.lemmas.List.{length-take-le}
use Rattle.std.proofs.Math.Logic.{∥∥₁_elim}
use denote.Struct.Props.{props}
use Rattle.beep_standing.specs.beep_frame.specs.Fed.{fed_of}
use Rattle.beep_standing.specs.beep_frame.specs.Modulo.{modulo_2_64}
use Rattle.beep_standing.specs.beep_history.specs.declared.journal.Side.{Side}
use Rattle.beep_standing.specs.beep_history.specs.Broken.{under_way}
use Rattle.beep_hearing.proofs.AnswerLemmas.{under_begun, passes_sized, passes_answers}
use Rattle.beep_hearing.proofs.ear.Ear.pass_whole.Goals as goal

pub hear_frame-requires-clause-begun : goal.hear_frame-requires-clause-begun
hear_frame-requires-clause-begun c other has = ∥∥₁_elim c.requires.held (hlevel props) (λ s.
    under_begun s.0 s.1 s.2 s.3 s.4 s.5 c.args.self.now c.args.lives.now s.6 c.in-Some.head other c.in-Some.is has)

pub hear_frame-requires-clause-sized : goal.hear_frame-requires-clause-sized
hear_frame-requires-clause-sized c = ∥∥₁_elim c.requires.held (hlevel props) (λ s.
    let count = c.in_ok-count.count in
    let f = fed_of s.1 s.6.hears.is_fed.frames s.2 (under_way Side.Received s.3) in
    passes_sized s.0 s.1 s.2 s.3 s.4 s.5 c.args.self.now c.args.lives.now s.6 c.take_whole.new.self (modulo_2_64 (c.args.self.now.used + count)) (take count c.args.bytes.now)
    (ap (λ n. modulo_2_64 (c.args.self.now.used + n)) (sym (length-take-le count c.args.bytes.now c.in_ok-count.ensures.within))) c.in_ok-count.ensures.kept
    c.in-Some.head c.in_ok-count.payload.now c.in-Some.is (c.in_ok-count.ensures.frame f s.6.hears.is_fed.was_fed))

pub returns-clause-answers : goal.returns-clause-answers
returns-clause-answers c size fed rest journal given taken s =
    let count = c.in_ok-count.count in
    let f = fed_of fed s.hears.is_fed.frames rest (under_way Side.Received journal) in
    passes_answers size fed rest journal given taken c.args.self.now c.args.lives.now s c.take_whole.new.self (modulo_2_64 (c.args.self.now.used + count)) (take count c.args.bytes.now)
    (ap (λ n. modulo_2_64 (c.args.self.now.used + n)) (sym (length-take-le count c.args.bytes.now c.in_ok-count.ensures.within))) c.in_ok-count.ensures.kept
    c.in-Some.head c.in_ok-count.payload.now c.in-Some.is (c.in_ok-count.ensures.frame f s.hears.is_fed.was_fed)
    c.hear_frame.new.lives c.if-channel-eq0.false c.hear_frame.ensures.above
