-- The channel at the place of a number is that of the number.
use Rattle.std.proofs.Common.{List, sym}
use Rattle.beep_channel.specs.Held.{Live}
use Rattle.beep_lives.proofs.LivesLemmas.{IsHere, here}
use Rattle.beep_lives.proofs.CallLemmas.{was-now}
use Rattle.beep_lives.proofs.lives.Lives.channel.Goals as goal

pub returns-in-Some : goal.returns-in-Some
returns-in-Some c =
    let items : List Live = c.self.inside.channels.items in
    let b : Live = c.index.result.now in
    let h : IsHere c.args.number c.in-Some.i items b = here c.args.number c.in-Some.i c.args.self.now items b c.self.view_is c.in-Some.ensures.some c.index.ensures in
    sym (was-now c.args.number c.in-Some.i c.args.self.now items b c.self.view_is h)
