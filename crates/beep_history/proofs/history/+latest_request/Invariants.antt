use Rattle.std.proofs.Common.{length}
use Rattle.beep_history.proofs.history.+latest_request.Given as goal

abbrev pub decreases-latest_request : goal.decreases-latest_request
decreases-latest_request l = length l.past.now
