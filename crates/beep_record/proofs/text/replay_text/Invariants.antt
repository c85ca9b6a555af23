use Rattle.std.proofs.Common.{◌-◌, ◌≤◌, length}
use Rattle.beep_record.proofs.TextReplayLemmas.{HasReplayed}
use Rattle.beep_record.proofs.text.replay_text.Given as goal

abbrev pub invariant-loop-i : goal.invariant-loop-i
invariant-loop-i l = record {
  within : l.i ≤ length l.text;
  replayed : HasReplayed l.text l.i l.text_replayer;
}

abbrev pub decreases-loop-i : goal.decreases-loop-i
decreases-loop-i l = length l.text - l.i
