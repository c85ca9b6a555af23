-- The two ends of a pair.
use Rattle.beep_schedule.specs.declared.event.End.{End}

abbrev pub other_end : End → End
other_end End.A = End.B
other_end End.B = End.A
