use Rattle.std.proofs.Common.{arith, sym, ◌∙◌}
use Rattle.beep_text.proofs.RoomLemmas.{room_found}
use Rattle.beep_text.proofs.level.has_room.Goals as goal

pub returns-then-branch : goal.returns-then-branch
returns-then-branch c = room_found c.args.name.now c.args.attrs.now c.loop-octet.octet (omega arith) (omega arith) (sym c.in_ok-is_new.ensures ∙ c.if-branch.true)
