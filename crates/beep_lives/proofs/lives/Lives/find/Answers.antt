-- The first number that is this has the place of the channel.
use Rattle.beep_lives.proofs.CallLemmas.{found-some, found-none}
use Rattle.beep_lives.proofs.lives.Lives.find.Goals as goal

pub returns-clause-some : goal.returns-clause-some
returns-clause-some c =
    found-some c.args.number c.self.inside.turns c.self.inside.channels.items c.args.self.now c.find_near.result c.find_near.ensures c.self.invariant.0.turns_are c.self.view_is

pub returns-clause-none : goal.returns-clause-none
returns-clause-none c =
    found-none c.args.number c.self.inside.turns c.self.inside.channels.items c.args.self.now c.find_near.result c.find_near.ensures c.self.invariant.0.turns_are c.self.view_is
