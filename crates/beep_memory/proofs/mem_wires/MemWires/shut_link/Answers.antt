use Rattle.std.proofs.Common.{◌∙◌, ap}
use Rattle.beep_memory.specs.Wiring.{link_at}
use Rattle.beep_memory.proofs.NeedLemmas.{shut-holds, link-within}
use Rattle.beep_memory.proofs.mem_wires.MemWires.shut_link.Goals as goal

pub shut_at-requires : goal.shut_at-requires
shut_at-requires c =
    link-within c.self.inside.links.items c.self.inside.waiting.items c.self.inside.events.events c.self.inside.events.room c.self.invariant c.args.link (ap (λ w. (link_at w c.args.link).is_open) c.self.view_is ∙ c.requires)

pub invariant_of-self : goal.invariant_of-self
invariant_of-self c =
    shut-holds c.self.inside.links.items c.self.inside.waiting.items c.self.inside.events.events c.self.inside.events.room c.self.invariant c.args.link (ap (λ w. (link_at w c.args.link).is_open) c.self.view_is ∙ c.requires)
    _ c.shut_at.ensures
