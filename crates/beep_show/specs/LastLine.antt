-- The last line and the status of each ending, for the proofs of `show`.
use Rattle.std.specs.Prelude.{ℕ, ◌==◌, List, [], if◌then◌else◌}
use Rattle.beep_show.specs.declared.ending.Ending.{Ending}
use Rattle.beep_show.specs.Texts.{totals_line, read_fault_line, cut_line, spent_line, broken_line}

-- the status, where so many octets came since the last whole frame
abbrev pub status_of : Ending → ℕ → ℕ
status_of (Ending.Ended octets) left = if left == 0 then 0 else 9
status_of (Ending.Spent octets) left = 11
status_of Ending.ReadFault left = 4
status_of Ending.WriteFault left = 5
status_of Ending.NoMemory left = 7
status_of (Ending.Broken rule place) left = 3

-- the line, after so many frames
abbrev pub last_line : Ending → ℕ → ℕ → List ℕ
last_line (Ending.Ended octets) frames left = if left == 0 then totals_line frames octets
    else cut_line left
last_line (Ending.Spent octets) frames left = spent_line octets
last_line Ending.ReadFault frames left = read_fault_line
last_line Ending.WriteFault frames left = []
last_line Ending.NoMemory frames left = []
last_line (Ending.Broken rule place) frames left = broken_line rule place
