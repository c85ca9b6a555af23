use Rattle.std.proofs.Common.{◌≡◌, ◌++◌, take}
use Rattle.beep_upright.specs.beep_lives.specs.Lives.{numbers}
use Rattle.beep_peer.specs.Standing.{rest_of}
use Rattle.beep_peer.proofs.standing.list_live.Given as goal

-- the numbers before the place are listed, but that of channel zero
abbrev pub invariant-loop-i : goal.invariant-loop-i
invariant-loop-i l = l.live.items ≡ l.initial.live.items ++ rest_of (take l.i (numbers l.lives))
