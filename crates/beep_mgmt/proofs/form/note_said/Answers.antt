use Rattle.std.proofs.Common.{sym, arith}
use Rattle.beep_mgmt.proofs.PartLemmas.{no_note_of}
use Rattle.beep_mgmt.proofs.form.note_said.Goals as goal

pub returns-then-items-gt1 : goal.returns-then-items-gt1
returns-then-items-gt1 c = sym (no_note_of c.args.items.now (omega arith))
