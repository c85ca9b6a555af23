-- The answers are those after the last whole reply that was given.
use Rattle.std.proofs.Common.{Some, refl, sym, ◌∙◌}
use Rattle.beep_giving.proofs.LooksLemmas.{answers-stand}
use Rattle.beep_giving.proofs.looks.begun_answers.Goals as goal

pub returns-in-Some-clause-stands : goal.returns-in-Some-clause-stands
returns-in-Some-clause-stands c live size fed rest journal given taken s =
    c.begun_answers.ensures
    ∙ answers-stand size c.args.number journal given taken c.args.peer.now.lives s.holds.live c.requires.above (Some c.in-Some.channel.now) (sym c.in-Some.ensures) refl
