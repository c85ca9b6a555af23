use Rattle.std.proofs.Common.{length}
use Rattle.beep_script.proofs.standing_now.+live_among.Given as goal

abbrev pub decreases-live_among : goal.decreases-live_among
decreases-live_among l = length l.part.now
