use Rattle.std.proofs.Common.{◌≡◌, ◌≤◌, ◌++◌, ◌-◌, length, take, drop}
use Rattle.beep_tally.specs.Accounts.{begun_from}
use Rattle.beep_tally.proofs.accounts.Accounts.begin.Given as goal

abbrev pub invariant-loop-i : goal.invariant-loop-i
invariant-loop-i l = record {
  within : l.i ≤ length l.self-inside.list.items;
  from : begun_from l.at l.number 1 l.self-inside.list.items ≡ take l.i l.self-inside.list.items ++ begun_from l.at l.number l.life (drop l.i l.self-inside.list.items);
}

abbrev pub decreases-loop-i : goal.decreases-loop-i
decreases-loop-i l = length l.self-inside.list.items - l.i
