use Rattle.std.proofs.Common.{◌∙◌, ap, refl, length}
use Rattle.beep_memory.specs.Wiring.{link_at}
use Rattle.beep_memory.proofs.NeedLemmas.{link-within, unread-holds, read-room, read-holds}
use Rattle.beep_memory.proofs.mem_wires.MemWires.read_link.Goals as goal

pub invariant_of-self : goal.invariant_of-self
invariant_of-self c =
    unread-holds c.self.inside.links.items c.self.inside.waiting.items c.self.inside.events.events c.self.inside.events.room c.self.invariant c.args.link (ap (λ w. (link_at w c.args.link).is_open) c.self.view_is ∙ c.requires.alive) (ap (λ w. (link_at w c.args.link).has_ended) c.self.view_is ∙ c.requires.going)
    _ c.fail_read_at.ensures.after

pub read_at-got-requires-clause-within : goal.read_at-got-requires-clause-within
read_at-got-requires-clause-within c = link-within c.self.inside.links.items c.self.inside.waiting.items c.self.inside.events.events c.self.inside.events.room c.self.invariant c.args.link (ap (λ w. (link_at w c.args.link).is_open) c.self.view_is ∙ c.requires.alive)

pub note_read-requires-clause-room : goal.note_read-requires-clause-room
note_read-requires-clause-room c =
    read-room c.self.inside.links.items c.self.inside.waiting.items c.self.inside.events.events c.self.inside.events.room c.self.invariant c.args.link (ap (λ w. (link_at w c.args.link).is_open) c.self.view_is ∙ c.requires.alive) (ap (λ w. (link_at w c.args.link).has_ended) c.self.view_is ∙ c.requires.going)
    (length c.args.buf.now) c.read_at-got.result c.read_at-got.ensures.got

pub invariant_of-self-2 : goal.invariant_of-self-2
invariant_of-self-2 c =
    read-holds c.self.inside.links.items c.self.inside.waiting.items c.self.inside.events.events c.self.inside.events.room c.self.invariant c.args.link (ap (λ w. (link_at w c.args.link).is_open) c.self.view_is ∙ c.requires.alive) (ap (λ w. (link_at w c.args.link).has_ended) c.self.view_is ∙ c.requires.going)
    (length c.args.buf.now) c.read_at-got.result c.read_at-got.ensures.got _ _ _ _ refl c.note_read.ensures.room c.read_at-got.ensures.after c.note_read.ensures.noted
