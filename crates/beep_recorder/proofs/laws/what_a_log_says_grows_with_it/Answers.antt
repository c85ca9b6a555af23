use Rattle.std.proofs.lemmas.List.{map-append}
use Rattle.beep_recorder.specs.Said.{entry_said}
use Rattle.beep_recorder.proofs.laws.what_a_log_says_grows_with_it.Goals as goal

pub returns : goal.returns
returns c = map-append entry_said
