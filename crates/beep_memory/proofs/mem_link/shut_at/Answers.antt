use Rattle.beep_memory.specs.Wiring.{peer_shut}
use Rattle.beep_memory.proofs.PlaceLemmas.{set-changed}
use Rattle.beep_memory.proofs.mem_link.shut_at.Goals as goal

pub returns : goal.returns
returns c =
    set-changed peer_shut c.args.links.now.items c.args.at c.index_mut.result.now _ c.requires c.index_mut.ensures.value c.shut.ensures
