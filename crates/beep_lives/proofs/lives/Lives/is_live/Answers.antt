-- A place is found exactly where a channel is there.
use Rattle.std.proofs.Common.{◌∙◌}
use Rattle.beep_lives.proofs.CallLemmas.{is-live}
use Rattle.beep_lives.proofs.lives.Lives.is_live.Goals as goal

pub returns : goal.returns
returns c = c.is_some.ensures ∙ is-live c.args.number c.args.self.now c.find.result c.find.ensures.some c.find.ensures.none
