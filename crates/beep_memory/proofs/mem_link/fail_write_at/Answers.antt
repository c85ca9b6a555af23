use Rattle.beep_wires.specs.declared.count.TheConstants.{COUNT_MAX}
use Rattle.beep_memory.specs.Wiring.{peer_unwritten}
use Rattle.beep_memory.proofs.PlaceLemmas.{set-changed, faults-at}
use Rattle.beep_memory.proofs.mem_link.fail_write_at.Goals as goal

pub returns-clause-after : goal.returns-clause-after
returns-clause-after c =
    set-changed peer_unwritten c.args.links.now.items c.args.at c.index_mut.result.now _ c.requires c.index_mut.ensures.value c.fail_write.ensures.after

pub returns-clause-counts : goal.returns-clause-counts
returns-clause-counts c =
    faults-at c.args.links.now.items c.args.at c.index_mut.result.now COUNT_MAX c.requires c.index_mut.ensures.value c.fail_write.ensures.counts
