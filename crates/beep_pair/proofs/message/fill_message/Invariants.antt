use Rattle.std.proofs.Common.{◌≡◌}
use Rattle.beep_pair.specs.Sessions.{message_from}
use Rattle.beep_pair.proofs.message.fill_message.Given as goal

abbrev pub invariant-loop-i : goal.invariant-loop-i
invariant-loop-i l = l.out.octets ≡ message_from l.fill l.i
