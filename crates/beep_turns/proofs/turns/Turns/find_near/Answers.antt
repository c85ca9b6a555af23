-- The number at the guess is the channel.
use Rattle.std.proofs.Common.{sym, ◌∙◌}
use Rattle.beep_turns.proofs.SearchLemmas.{read-there}
use Rattle.beep_turns.proofs.turns.Turns.find_near.Goals as goal

pub returns-in-Some : goal.returns-in-Some
returns-in-Some c =
    sym (read-there c.args.self.now c.args.channel c.args.guess c.in-Some.number c.place.ensures.ascending (sym c.place.ensures.value ∙ c.in-Some.is) c.if-number-channel.true)
