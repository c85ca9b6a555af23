use Rattle.std.proofs.Common.{length}
use Rattle.beep_script.proofs.refusals.+refusal.Given as goal

abbrev pub decreases-refusal : goal.decreases-refusal
decreases-refusal l = length l.journal.now
