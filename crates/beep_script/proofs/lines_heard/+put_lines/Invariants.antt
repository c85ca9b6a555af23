use Rattle.std.proofs.Common.{◌-◌, length}
use Rattle.beep_script.proofs.lines_heard.+put_lines.Given as goal

abbrev pub decreases-put_lines : goal.decreases-put_lines
decreases-put_lines l = length l.list.now - l.from
