use Rattle.std.proofs.Common.{ap, ◌∙◌, arith}
use Rattle.std.specs.List.{list_all}
use Rattle.beep_chars.specs.Characters.{is_allowed}
use Rattle.beep_mgmt.proofs.BackLemmas.{decimal-allowed}
use Rattle.beep_mgmt.proofs.build.close_as.Goals as goal

pub set-requires-clause-allowed : goal.set-requires-clause-allowed
set-requires-clause-allowed c = ap (list_all is_allowed) c.in_ok-decimal_text.ensures ∙ decimal-allowed c.args.number (let fits = c.ranges.number.fits in omega arith)
