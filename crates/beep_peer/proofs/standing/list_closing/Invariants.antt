use Rattle.std.proofs.Common.{◌≡◌, ◌++◌, filter, take}
use Rattle.beep_upright.specs.beep_asked.specs.Kept.{closes}
use Rattle.beep_peer.proofs.standing.list_closing.Given as goal

-- those before the place whose close waits are listed
abbrev pub invariant-loop-number : goal.invariant-loop-number
invariant-loop-number l = l.closing.items
    ≡ l.initial.closing.items ++ filter (λ number. closes number l.theirs.requests) (take l.number-index l.live)
