use Rattle.beep_runs.proofs.ReplayLemmas.{replayed}
use Rattle.beep_runs.proofs.laws.a_run_is_replayed_to_what_ended_it.Goals as goal

pub returns : goal.returns
returns c = λ terms cause log verdict old new lawful shows replays. replayed terms cause log verdict old new shows replays
