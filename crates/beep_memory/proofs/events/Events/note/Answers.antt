use Rattle.std.proofs.Common.{◌∙◌, ◌∷◌, ap}
use Rattle.beep_memory.specs.Kept.{entry_as}
use Rattle.beep_memory.proofs.KeptLemmas.{noted-rises, noted-events}
use Rattle.beep_memory.proofs.events.Events.note.Goals as goal

pub invariant_of-self : goal.invariant_of-self
invariant_of-self c =
    noted-rises c.self.inside.octets.octets c.args.bytes.now _ c.self.inside.marks.items _ (record { link = c.args.link; deed = c.args.deed; end = c.len-end.result })
    c.self.invariant c.extend_spare.ensures.appended c.push_reserved.ensures.items c.len-end.ensures

pub returns-clause-noted : goal.returns-clause-noted
returns-clause-noted c =
    noted-events c.self.inside.octets.octets c.args.bytes.now _ c.self.inside.marks.items _ (record { link = c.args.link; deed = c.args.deed; end = c.len-end.result })
    c.self.invariant c.extend_spare.ensures.appended c.push_reserved.ensures.items c.len-end.ensures
    ∙ ap (λ s. record { link = c.args.link; entry = entry_as c.args.deed c.args.bytes.now } ∷ s.events) c.self.view_is
