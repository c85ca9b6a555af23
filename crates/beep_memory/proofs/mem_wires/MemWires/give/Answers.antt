use Rattle.beep_memory.proofs.NeedLemmas.{give-holds}
use Rattle.beep_memory.proofs.mem_wires.MemWires.give.Goals as goal

pub invariant_of-self-2 : goal.invariant_of-self-2
invariant_of-self-2 c =
    give-holds c.reserve.new.self.items c.self.inside.links.items _ c.self.inside.waiting.items _ c.self.inside.events.events c.self.inside.events.room c.has-is_planned.result c.is_refused.result
    c.self.invariant c.reserve.ensures.items c.is_refused.ensures c.if-is_refused.false c.open_first.ensures.links c.open_first.ensures.waiting
