use Rattle.std.proofs.Common.{◌-◌, length}
use Rattle.beep_script.proofs.lines_heard.+put_entries.Given as goal

abbrev pub decreases-put_entries : goal.decreases-put_entries
decreases-put_entries l = length l.more.now - l.from
