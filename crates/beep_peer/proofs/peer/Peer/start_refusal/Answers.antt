-- The channels are too few for a count to overflow.
use Rattle.std.proofs.Common.{sym, ◌∙◌, arith}
use Rattle.beep_peer.proofs.AskedLemmas.{few-used}
use Rattle.beep_peer.proofs.peer.Peer.start_refusal.Goals as goal

pub count_starting-requires : goal.count_starting-requires
count_starting-requires c =
    let peer = c.args.self.now in
    let few = few-used peer.lives peer.management (c.requires.held (sym c.is_over.ensures ∙ c.if-is_over.false)) in
    record { few = omega (arith, few) }

pub overflow_add-len : goal.overflow_add-len
overflow_add-len c =
    let peer = c.args.self.now in
    let few = few-used peer.lives peer.management (c.requires.held (sym c.is_over.ensures ∙ c.if-is_over.false)) in
    omega (arith, few, c.len.ensures, c.count_starting.ensures)
