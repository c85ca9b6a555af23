use Rattle.std.proofs.Common.{take}
use Rattle.beep_memory.specs.Wiring.{peer_written}
use Rattle.beep_memory.proofs.PlaceLemmas.{set-changed}
use Rattle.beep_memory.proofs.mem_link.write_at.Goals as goal

pub returns-clause-after : goal.returns-clause-after
returns-clause-after c =
    set-changed (λ p. peer_written p (take c.write.result c.args.bytes.now)) c.args.links.now.items c.args.at c.index_mut.result.now _ c.requires c.index_mut.ensures.value c.write.ensures.after
