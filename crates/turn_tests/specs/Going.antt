-- A link of which turns are taken.
use Rattle.std.specs.Prelude.{◌≡◌, true, false}
use Rattle.beep_wires.specs.Links.{Link}
use Rattle.beep_link.specs.Causes.{TellsLeft}
use Rattle.beep_link.specs.declared.left.Left.{Left}
use Rattle.beep_link.specs.declared.left.Reads.{Reads}

-- it is open and hasn't ended, no call on it has failed, and its log, where it is known, shows what may still be read of it
pub record IsGoing (link : Link) (reads : Reads) (left : Left) : Type 0 where
  pub is_open : link.is_open ≡ true
  pub going : link.has_ended ≡ false
  pub unfailed : link.faults ≡ 0
  pub shown : TellsLeft reads left link.log
