use Rattle.beep_inbox.proofs.laws.a_put_leaves_marked_runs.Goals as goal
use Rattle.beep_inbox.proofs.RunsLemmas.{put-marked}

pub returns : goal.returns
returns c = put-marked
