use Rattle.std.proofs.Common.{ap, arith}
use Rattle.beep_outbox.proofs.outbox.Outbox.reserve.Goals as goal
use Rattle.beep_outbox.specs.Unsent.{Unsent}

pub returns-clause-succeeds : goal.returns-clause-succeeds
returns-clause-succeeds c fits some =
    let spare = ap (λ (unsent : Unsent). unsent.spare) c.self.view_is in
    c.make_room.ensures.succeeds (omega (arith, fits, spare))
