use Rattle.beep_std.specs.Sockets.{socket_shut}
use Rattle.beep_std.proofs.PlaceLemmas.{set-changed}
use Rattle.beep_std.proofs.socket.shut_at.Goals as goal

pub returns : goal.returns
returns c = set-changed socket_shut c.args.links.now.items c.args.at c.index_mut.result.now _ c.requires c.index_mut.ensures.value c.shut.ensures
