use Rattle.std.proofs.Common.{◌+◌, ◌<◌, length, arith, sym, subst}
use Rattle.beep_management.specs.Managed.{Managed}
use Rattle.beep_management.proofs.management.Management.count_starting.Goals as goal

pub overflow_add-result : goal.overflow_add-result
overflow_add-result c = omega (
  arith,
  c.len.ensures,
  c.len-2.ensures,
  subst (λ (m : Managed). length m.starting + length m.granted < 4294967296) (sym c.self.view_is) c.requires.few,
)
