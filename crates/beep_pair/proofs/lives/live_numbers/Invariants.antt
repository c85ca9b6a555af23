use Rattle.std.proofs.Common.{◌≡◌, ◌-◌, length, take}
use Rattle.beep_two_sessions.specs.beep_peer.specs.Standing.{live_above}
use Rattle.beep_pair.proofs.lives.live_numbers.Given as goal

abbrev pub invariant-loop-number : goal.invariant-loop-number
invariant-loop-number l = l.numbers.items ≡ take (length l.numbers.items) (live_above l.session.peer)

abbrev pub decreases-loop-number : goal.decreases-loop-number
decreases-loop-number l = length (live_above l.session.peer) - length l.numbers.items
