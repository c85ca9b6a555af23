use Rattle.beep_served.proofs.ShownLemmas.{shown-position}
use Rattle.beep_served.proofs.laws.a_position_is_bound_by_the_octets_that_came.Goals as goal

pub returns : goal.returns
returns c = shown-position
