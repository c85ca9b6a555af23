-- A part of a message joins channel zero's history.
use Rattle.std.proofs.Common.{refl, ap, None, true}
use Rattle.beep_judge.proofs.AboveLemmas.{begun-zero}
use Rattle.beep_judge.proofs.PartLemmas.{part-passes}
use Rattle.beep_judge.proofs.pass.pass_part.Goals as goal

pub pass-requires-clause-begun : goal.pass-requires-clause-begun
pass-requires-clause-begun c = begun-zero c.args.side c.args.channels.now c.args.mine.now c.args.frame.now c.requires.reached c.requires.begun c.requires.zero

pub returns-clause-ok : goal.returns-clause-ok
returns-clause-ok c theirs journal s size =
    part-passes c.args.side journal c.args.frame.now c.args.payload.now c.args.channels.now c.pass.new.self c.args.mine.now theirs s
    c.requires.zero c.requires.begun c.requires.part c.pass.ensures size
    (record { under_way = None; heard = true; text = c.gather.new.self.text; asked = c.gather.new.self.asked }) refl refl c.in_ok-gather.ensures.text (ap (λ q. q.items) c.gather.ensures.asked)
