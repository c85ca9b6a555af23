use Rattle.std.proofs.Common.{length}
use Rattle.beep_lawful.proofs.windows.+window_advertised.Given as goal

abbrev pub decreases-window_advertised : goal.decreases-window_advertised
decreases-window_advertised l = length l.past.now
