use Rattle.std.proofs.Common.{rules}
use Rattle.beep_management.proofs.AnswerLemmas.{listed-more}
use Rattle.beep_management.proofs.management.list_numbers.Goals as goal

pub loop-i-preserved : goal.loop-i-preserved
loop-i-preserved c =
    listed-more c.args.numbers.now.items c.loop-i.numbers.items c.push.new.self.items c.args.channels.now.list c.loop-i.i c.number.result
    (search rules) c.loop-i.invariant (search rules) c.number.ensures
