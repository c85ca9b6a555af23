use Rattle.std.proofs.Common.{length}
use Rattle.beep_memory.specs.Wiring.{peer_read}
use Rattle.beep_memory.proofs.PlaceLemmas.{set-changed}
use Rattle.beep_memory.proofs.mem_link.read_at.Goals as goal

pub returns-clause-after : goal.returns-clause-after
returns-clause-after c =
    set-changed (λ p. peer_read p (length c.args.buf.now)) c.args.links.now.items c.args.at c.index_mut.result.now _ c.requires.within c.index_mut.ensures.value c.read.ensures.after
