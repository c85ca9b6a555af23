use Rattle.beep_inbox.proofs.laws.a_put_appends_its_marks.Goals as goal
use Rattle.beep_inbox.proofs.RunsLemmas.{put-marks}

pub returns : goal.returns
returns c = put-marks
