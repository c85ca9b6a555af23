use Rattle.std.proofs.Common.{◌||◌, refl}
use Rattle.beep_schedule.specs.declared.event.End.{End}
use Rattle.beep_pair.specs.Draining.{Turned, Rounded}
use Rattle.beep_pair.proofs.LeadLemmas.{leads-then}
use Rattle.beep_pair.proofs.DrainLemmas.{turned-both, rounded-as}
use Rattle.beep_pair.proofs.pair.Pair.round.Goals as goal

pub returns-then-a-clause-rounded : goal.returns-then-a-clause-rounded
returns-then-a-clause-rounded c =
    leads-then (Turned End.A c.args.max c.args.piece c.in_ok-a.a c.args.line.now.octets c.turn.new.line.octets) (Turned End.B c.args.max c.args.piece c.in_ok-b.b c.turn.new.line.octets c.turn-2.new.line.octets)
    (Rounded c.args.max c.args.piece c.in_ok-a.a c.args.line.now.octets c.turn-2.new.line.octets) c.args.self.now c.turn.new.self c.turn-2.new.self c.in_ok-a.ensures.turned c.in_ok-b.ensures.turned
    (λ first middle last wa ka wb kb wc kc s t. rounded-as c.args.max c.args.piece (c.in_ok-a.a || c.in_ok-b.b) c.in_ok-a.a c.args.line.now.octets c.turn-2.new.line.octets first last (rw c.if-a.true refl)
    (turned-both c.args.max c.args.piece c.in_ok-a.a c.in_ok-b.b c.args.line.now.octets c.turn.new.line.octets c.turn-2.new.line.octets first middle last s t))

pub returns-else-a-clause-rounded : goal.returns-else-a-clause-rounded
returns-else-a-clause-rounded c =
    leads-then (Turned End.A c.args.max c.args.piece c.in_ok-a.a c.args.line.now.octets c.turn.new.line.octets) (Turned End.B c.args.max c.args.piece c.in_ok-b.b c.turn.new.line.octets c.turn-2.new.line.octets)
    (Rounded c.args.max c.args.piece c.in_ok-b.b c.args.line.now.octets c.turn-2.new.line.octets) c.args.self.now c.turn.new.self c.turn-2.new.self c.in_ok-a.ensures.turned c.in_ok-b.ensures.turned
    (λ first middle last wa ka wb kb wc kc s t. rounded-as c.args.max c.args.piece (c.in_ok-a.a || c.in_ok-b.b) c.in_ok-b.b c.args.line.now.octets c.turn-2.new.line.octets first last (rw c.if-a.false refl)
    (turned-both c.args.max c.args.piece c.in_ok-a.a c.in_ok-b.b c.args.line.now.octets c.turn.new.line.octets c.turn-2.new.line.octets first middle last s t))
