-- A header is under way exactly where a frame has begun.
use Rattle.std.proofs.Common.{ap, ◌∙◌}
use Rattle.std.specs.Prelude.{is_some}
use Rattle.beep_lives.specs.Lives.{has_begun, receiving_of}
use Rattle.beep_lives.proofs.lives.Lives.receiving.Goals as goal

pub returns-in-Some-clause-value : goal.returns-in-Some-clause-value
returns-in-Some-clause-value c = c.receiving.ensures.value ∙ ap receiving_of c.in-Some.ensures

pub returns-in-Some-clause-begun : goal.returns-in-Some-clause-begun
returns-in-Some-clause-begun c = ap is_some c.receiving.ensures.value ∙ ap has_begun c.in-Some.ensures
