use Rattle.std.proofs.Common.{sym}
use Rattle.prof_raw.proofs.PieceLemmas.{short-at}
use Rattle.prof_raw.proofs.read.is_line_end.Goals as goal

pub returns-then-body-at-lt2 : goal.returns-then-body-at-lt2
returns-then-body-at-lt2 c = sym (short-at c.args.body.now c.args.at c.if-body-at-lt2.true)
