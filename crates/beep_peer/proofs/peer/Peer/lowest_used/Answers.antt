-- The lowest of the live numbers above zero and of those that are starting.
use Rattle.std.proofs.Common.{Some, None, ◌++◌, sym, ap, ◌∙◌}
use Rattle.beep_upright.specs.beep_lives.specs.Lives.{numbers}
use Rattle.beep_upright.specs.beep_management.specs.Managed.{numbers_of}
use Rattle.beep_peer.specs.Standing.{rest_of}
use Rattle.beep_peer.proofs.LowestLemmas.{live-lowest, alone-lower, both-lowest}
use Rattle.beep_peer.proofs.peer.Peer.lowest_used.Goals as goal

pub returns-in-Some-live : goal.returns-in-Some-live
returns-in-Some-live c =
    let peer = c.args.self.now in
    ap Some c.min.ensures
    ∙ both-lowest (rest_of (numbers peer.lives)) (numbers_of peer.management.starting ++ numbers_of peer.management.granted) (Some c.in-Some-live.live) (Some c.in-Some.starting)
    (sym c.in-Some-live.is ∙ c.place-live.ensures ∙ live-lowest peer.lives peer.management c.requires.held) (sym c.in-Some.is ∙ c.lowest_starting.ensures)

pub returns-in-None-live : goal.returns-in-None-live
returns-in-None-live c =
    let peer = c.args.self.now in
    both-lowest (rest_of (numbers peer.lives)) (numbers_of peer.management.starting ++ numbers_of peer.management.granted) None (Some c.in-Some.starting)
    (sym c.in-None-live.is ∙ c.place-live.ensures ∙ live-lowest peer.lives peer.management c.requires.held) (sym c.in-Some.is ∙ c.lowest_starting.ensures)

pub returns-in-None : goal.returns-in-None
returns-in-None c =
    let peer = c.args.self.now in
    alone-lower c.place-live.result
    ∙ both-lowest (rest_of (numbers peer.lives)) (numbers_of peer.management.starting ++ numbers_of peer.management.granted) c.place-live.result None
    (c.place-live.ensures ∙ live-lowest peer.lives peer.management c.requires.held) (sym c.in-None.is ∙ c.lowest_starting.ensures)
