-- What was left is what was read and what is left now.
use Rattle.beep_wires.proofs.ReadLemmas.{left_from, none_left}
use Rattle.beep_wires.proofs.mem_source.MemSourceSource.read.Goals as goal

pub returns-clause-octets : goal.returns-clause-octets
returns-clause-octets c =
    let octets = c.self.inside.contents.octets in let at = c.self.inside.at in
    let front = rw c.as_slice.ensures at c.copy_front-n.ensures.front in
    let count = rw c.as_slice.ensures at c.copy_front-n.ensures.count in
    rw (← c.self.view_is) (
      left_from octets c.copy_front-n.new.to at _ front,
      λ none _. none_left octets at _ _ _ c.self.invariant.1 c.requires.room count none,
    )
