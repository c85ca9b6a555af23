use Rattle.std.proofs.Common.{ap, arith}
use Rattle.beep_inbox.proofs.PartsLemmas.{runs-octets}
use Rattle.beep_inbox.proofs.inbox.Inbox.room.Goals as goal
use Rattle.beep_inbox.specs.Runs.{octets_of}
use Rattle.beep_inbox.specs.Untaken.{Untaken}

pub returns : goal.returns
returns c =
    let octets =
    runs-octets c.self.inside.parts.items c.self.inside.octets.items c.self.invariant.0 in
    let runs = ap (λ (untaken : Untaken). octets_of untaken.runs) c.self.view_is in
    let window = ap (λ (untaken : Untaken). untaken.window) c.self.view_is in
    omega (arith, octets, runs, window, c.len.ensures.within, c.len.ensures.len)
