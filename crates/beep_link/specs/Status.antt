-- The exit status that stands for what ended a session (docs/COMMANDS.md).
-- The code hands it on; here it is read off the end.
use Rattle.std.specs.Prelude.{ℕ}
use Rattle.beep_link.specs.declared.ended.Ended.{Ended}

abbrev pub ended_status : Ended → ℕ
ended_status Ended.Released = 0
ended_status (Ended.Broken rule place) = 3
ended_status Ended.WriteFault = 5
ended_status Ended.WireFault = 6
ended_status Ended.NoMemory = 7
ended_status (Ended.Refused code) = 8
ended_status (Ended.Cut left) = 9
ended_status (Ended.Idle reads) = 10
ended_status (Ended.Spent octets) = 11
