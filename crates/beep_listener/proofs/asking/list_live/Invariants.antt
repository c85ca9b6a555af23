-- The numbers so far are the first of the live channels.
use Rattle.std.proofs.Common.{◌≡◌, ◌-◌, length, take}
use Rattle.beep_steps.specs.beep_peer.specs.Standing.{live_above}
use Rattle.beep_listener.proofs.asking.list_live.Given as goal

abbrev pub invariant-loop-number : goal.invariant-loop-number
invariant-loop-number l = l.numbers.items ≡ take (length l.numbers.items) (live_above l.session.peer)

abbrev pub decreases-loop-number : goal.decreases-loop-number
decreases-loop-number l = length (live_above l.session.peer) - length l.numbers.items
