-- The octets that arrived wait.
use Rattle.std.proofs.Common.{arith}
use Rattle.octet_cases.proofs.windows.window_after.Goals as goal

pub taken-requires : goal.taken-requires
taken-requires c = let after = c.arrived.ensures.counted _ _ c.new-window.ensures in omega (arith, after.untaken)
