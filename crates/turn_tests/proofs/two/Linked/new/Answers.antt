-- All that may be read is left.
use Rattle.std.proofs.Common.{subst, sym}
use Rattle.beep_link.specs.declared.left.Left.{Left}
use Rattle.turn_tests.specs.Going.{IsGoing}
use Rattle.turn_tests.proofs.SharedLemmas.{fresh-goes}
use Rattle.turn_tests.proofs.two.Linked.new.Goals as goal

pub returns-clause-going : goal.returns-clause-going
returns-clause-going g c state fresh = subst (λ (left : Left). IsGoing state c.args.reads left) (sym c.of.ensures) (fresh-goes state c.args.reads fresh)
