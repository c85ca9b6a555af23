use Rattle.beep_runs.proofs.ReplayLemmas.{never-written}
use Rattle.beep_runs.proofs.laws.what_is_lawful_is_replayed_as_lawful.Goals as goal

pub returns : goal.returns
returns c = λ terms log verdict old new lawful replays. never-written terms log verdict old new replays lawful
