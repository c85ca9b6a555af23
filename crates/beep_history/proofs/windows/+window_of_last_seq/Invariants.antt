use Rattle.std.proofs.Common.{length}
use Rattle.beep_history.proofs.windows.+window_of_last_seq.Given as goal

abbrev pub decreases-window_of_last_seq : goal.decreases-window_of_last_seq
decreases-window_of_last_seq l = length l.past.now
