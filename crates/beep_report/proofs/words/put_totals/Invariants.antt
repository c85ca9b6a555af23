use Rattle.std.proofs.Common.{◌≡◌, ◌++◌, take}
use Rattle.std.specs.List.{flat_map}
use Rattle.beep_report.specs.Texts.{account_lines}
use Rattle.beep_report.proofs.words.put_totals.Given as goal

abbrev pub invariant-loop-account : goal.invariant-loop-account
invariant-loop-account l = l.out.octets ≡ l.fn.out.octets ++ flat_map account_lines (take l.account-index l.accounts)
