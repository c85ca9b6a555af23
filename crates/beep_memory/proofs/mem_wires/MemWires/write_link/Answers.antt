use Rattle.std.proofs.Common.{◌∙◌, ap, refl, arith}
use Rattle.beep_memory.specs.Wiring.{link_at}
use Rattle.beep_memory.proofs.NeedLemmas.{link-within, unwritten-holds, write-room, write-holds}
use Rattle.beep_memory.proofs.mem_wires.MemWires.write_link.Goals as goal

pub invariant_of-self : goal.invariant_of-self
invariant_of-self c =
    unwritten-holds c.self.inside.links.items c.self.inside.waiting.items c.self.inside.events.events c.self.inside.events.room c.self.invariant c.args.link (ap (λ w. (link_at w c.args.link).is_open) c.self.view_is ∙ c.requires.alive)
    _ c.fail_write_at.ensures.after

pub write_at-n-requires : goal.write_at-n-requires
write_at-n-requires c = link-within c.self.inside.links.items c.self.inside.waiting.items c.self.inside.events.events c.self.inside.events.room c.self.invariant c.args.link (ap (λ w. (link_at w c.args.link).is_open) c.self.view_is ∙ c.requires.alive)

pub note-requires : goal.note-requires
note-requires c =
    write-room c.self.inside.links.items c.self.inside.waiting.items c.self.inside.events.events c.self.inside.events.room c.self.invariant c.args.link (ap (λ w. (link_at w c.args.link).is_open) c.self.view_is ∙ c.requires.alive)
    c.args.bytes.now c.write_at-n.result c.write_at-n.ensures.taken (omega (arith, c.write_at-n.ensures.taken, c.if-room_at-eq0.false, c.room_at.ensures, c.requires.some))

pub invariant_of-self-2 : goal.invariant_of-self-2
invariant_of-self-2 c =
    write-holds c.self.inside.links.items c.self.inside.waiting.items c.self.inside.events.events c.self.inside.events.room c.self.invariant c.args.link (ap (λ w. (link_at w c.args.link).is_open) c.self.view_is ∙ c.requires.alive)
    c.args.bytes.now c.write_at-n.result c.write_at-n.ensures.taken (omega (arith, c.write_at-n.ensures.taken, c.if-room_at-eq0.false, c.room_at.ensures, c.requires.some)) _ _ _ _ refl c.note.ensures.room c.write_at-n.ensures.after c.note.ensures.noted
