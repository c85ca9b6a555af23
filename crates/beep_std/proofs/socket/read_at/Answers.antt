use Rattle.beep_std.specs.Sockets.{socket_read}
use Rattle.beep_std.proofs.PlaceLemmas.{set-changed}
use Rattle.beep_std.proofs.socket.read_at.Goals as goal

pub returns-clause-after : goal.returns-clause-after
returns-clause-after c =
    set-changed (socket_read c.read.result) c.args.links.now.items c.args.at c.index_mut.result.now _ c.requires c.index_mut.ensures.value c.read.ensures.after
