use Rattle.beep_inbox.proofs.laws.a_take_leaves_marked_runs.Goals as goal
use Rattle.beep_inbox.proofs.RunsLemmas.{left-marked}

pub returns : goal.returns
returns c = left-marked
