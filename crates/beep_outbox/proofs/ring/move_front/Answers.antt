use Rattle.beep_outbox.proofs.EntriesLemmas.{two-parts}
use Rattle.beep_outbox.proofs.ring.move_front.Goals as goal

pub returns-clause-appended : goal.returns-clause-appended
returns-clause-appended c =
    two-parts c.args.n c.min-from_front.result c.as_slices.result.0.now c.as_slices.result.1.now
    c.args.ring.now.items c.args.out.now.octets c.extend_spare.new.self.octets
    c.append_any.new.out.octets c.as_slices.ensures c.min-from_front.ensures
    c.extend_spare.ensures.appended c.append_any.ensures.appended
