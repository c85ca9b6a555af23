use Rattle.beep_memory.proofs.NeedLemmas.{add-holds}
use Rattle.beep_memory.proofs.mem_wires.MemWires.add.Goals as goal

pub invariant_of-self-2 : goal.invariant_of-self-2
invariant_of-self-2 c =
    add-holds c.self.inside.links.items c.self.inside.waiting.items _ _ c.self.inside.events.events _ c.self.inside.events.room _ _ _ c.args.room c.args.gives _
    c.self.invariant c.in_ok-reserve.ensures.items c.push_reserved.ensures.items c.in_ok-reserve_more.ensures.kept c.new.ensures
    c.in-Some.ensures c.in-Some-log_need.ensures c.in_ok-reserve_more.ensures.ok
