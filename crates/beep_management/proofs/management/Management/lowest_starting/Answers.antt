use Rattle.std.proofs.Common.{◌++◌, Option, ℕ, ap, ◌∙◌}
use Rattle.std.specs.Option.{option_to_list}
use Rattle.beep_management.specs.Managed.{Managed, numbers_of, lowest}
use Rattle.beep_management.proofs.AnswerLemmas.{lowest-joins}
use Rattle.beep_management.proofs.management.Management.lowest_starting.Goals as goal

pub returns : goal.returns
returns c =
    let starting = numbers_of c.self.inside.starting.list in
    let granted = numbers_of c.self.inside.granted.list in
    c.lowest_of-lowest-2.ensures
    ∙ ap (λ (o : Option ℕ). lowest (option_to_list o ++ granted)) c.lowest_of-lowest.ensures
    ∙ lowest-joins starting granted
    ∙ ap (λ (m : Managed). lowest (numbers_of m.starting ++ numbers_of m.granted)) c.self.view_is
