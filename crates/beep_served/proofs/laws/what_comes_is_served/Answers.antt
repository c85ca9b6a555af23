use Rattle.beep_served.proofs.ShownLemmas.{shown-served}
use Rattle.beep_served.proofs.laws.what_comes_is_served.Goals as goal

pub returns : goal.returns
returns c = shown-served
