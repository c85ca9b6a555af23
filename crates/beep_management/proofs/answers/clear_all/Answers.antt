-- One more answer is cleared in its place.
use Rattle.std.proofs.Common.{rules}
use Rattle.beep_management.proofs.AnswerLemmas.{cleared-more}
use Rattle.beep_management.proofs.answers.clear_all.Goals as goal

pub loop-i-preserved : goal.loop-i-preserved
loop-i-preserved c = (
  cleared-more c.args.number c.args.list.now.items c.loop-i.list.items c.loop-i.i c.index_mut.result.now c.clear.new.self
      (search rules) (search rules) c.loop-i.invariant.0 c.index_mut.ensures.value c.clear.ensures,
  c.loop-i.invariant.1,
  c.loop-i.invariant.2,
)
