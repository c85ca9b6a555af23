use Rattle.beep_wires.specs.declared.count.TheConstants.{COUNT_MAX}
use Rattle.beep_memory.specs.Wiring.{peer_unread}
use Rattle.beep_memory.proofs.PlaceLemmas.{set-changed, faults-at}
use Rattle.beep_memory.proofs.mem_link.fail_read_at.Goals as goal

pub returns-clause-after : goal.returns-clause-after
returns-clause-after c =
    set-changed peer_unread c.args.links.now.items c.args.at c.index_mut.result.now _ c.requires c.index_mut.ensures.value c.fail_read.ensures.after

pub returns-clause-counts : goal.returns-clause-counts
returns-clause-counts c =
    faults-at c.args.links.now.items c.args.at c.index_mut.result.now COUNT_MAX c.requires c.index_mut.ensures.value c.fail_read.ensures.counts
