-- Each call has one entry less.
use Rattle.std.proofs.Common.{length}
use Rattle.beep_shown.proofs.prompt.+is_prompt.Given as goal

abbrev pub decreases-is_prompt : goal.decreases-is_prompt
decreases-is_prompt l = length l.log.now
