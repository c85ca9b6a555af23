use Rattle.std.proofs.Common.{sym, ap, ◌∙◌, arith}
use Rattle.beep_inbox.proofs.inbox.Inbox.untaken.Goals as goal
use Rattle.beep_inbox.proofs.PartsLemmas.{runs-octets}
use Rattle.beep_inbox.specs.Runs.{octets_of}
use Rattle.beep_inbox.specs.Untaken.{Untaken}

pub returns-clause-value : goal.returns-clause-value
returns-clause-value c =
    c.len.ensures.len
    ∙ sym (runs-octets c.self.inside.parts.items c.self.inside.octets.items c.self.invariant.0)
    ∙ ap (λ (untaken : Untaken). octets_of untaken.runs) c.self.view_is

pub returns-clause-within : goal.returns-clause-within
returns-clause-within c =
    let value = returns-clause-value c in
    let window = ap (λ (untaken : Untaken). untaken.window) c.self.view_is in
    omega (arith, c.len.ensures.within, value, window)
