use Rattle.std.proofs.Common.{not, ap}
use Rattle.beep_pair.specs.Steps.{SendsStep}
use Rattle.beep_pair.specs.Drains.{GotAll, TookAll}
use Rattle.beep_pair.specs.Draining.{Turned}
use Rattle.beep_pair.proofs.LeadLemmas.{leads-three}
use Rattle.beep_pair.proofs.DrainLemmas.{one-turn}
use Rattle.beep_pair.proofs.pair.Pair.turn.Goals as goal

pub returns-clause-turned : goal.returns-clause-turned
returns-clause-turned c =
    let emit = c.in_ok-emit.emit in
    leads-three (SendsStep c.args.at c.args.max emit) (GotAll c.args.other c.args.piece) (TookAll c.args.other) (Turned c.args.at c.args.max c.args.piece (not c.is_nothing.result) c.args.line.now.octets c.put_drain_line.new.out.octets)
    c.args.self.now c.send.new.self c.get_all.new.self c.take_all.new.self c.in_ok-emit.ensures.sent c.in_ok-get_all.ensures.got c.in_ok-take_all.ensures.took
    (λ first said heard last s g t. one-turn c.args.at c.args.other c.args.max c.args.piece emit (not c.is_nothing.result) c.args.line.now.octets c.put_drain_line.new.out.octets first said heard last
    c.requires.other s g t (ap not c.is_nothing.ensures) c.in_ok-put_drain_line.ensures)
