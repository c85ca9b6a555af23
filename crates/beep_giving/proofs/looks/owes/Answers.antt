-- What is owed is the requests that were taken, but for the whole replies that were given.
use Rattle.std.proofs.Common.{Some, is_some, refl, sym, ap, ◌∙◌}
use Rattle.beep_giving.proofs.LooksLemmas.{owed-some, owes-stands}
use Rattle.beep_giving.proofs.looks.owes.Goals as goal

pub returns-in-Some-clause-stands : goal.returns-in-Some-clause-stands
returns-in-Some-clause-stands c live size fed rest journal given taken s =
    c.is_some.ensures ∙ ap (λ o. is_some o) c.first_owed.ensures.value ∙ owed-some c.in-Some.channel.now.held.life.given
    ∙ owes-stands size c.args.number journal given taken c.args.peer.now.lives s.holds.live c.requires.above (Some c.in-Some.channel.now) (sym c.in-Some.ensures) refl
