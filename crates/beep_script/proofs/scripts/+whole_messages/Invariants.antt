use Rattle.std.proofs.Common.{length}
use Rattle.beep_script.proofs.scripts.+whole_messages.Given as goal

abbrev pub decreases-whole_messages : goal.decreases-whole_messages
decreases-whole_messages l = length l.listed.now
