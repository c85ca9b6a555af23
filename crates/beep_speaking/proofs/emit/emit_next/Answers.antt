use Rattle.std.proofs.Common.{List, sym, subst}
use Rattle.beep_standing.specs.beep_channel.specs.Held.{Live}
use Rattle.beep_speaking.specs.Emits.{IsReached}
use Rattle.beep_speaking.proofs.emit.emit_next.Goals as goal

pub send_next-requires-clause-reached : goal.send_next-requires-clause-reached
send_next-requires-clause-reached c =
    subst (λ (channels : List Live). IsReached channels) (sym c.in_default.ensures.kept.0) c.requires.reached
