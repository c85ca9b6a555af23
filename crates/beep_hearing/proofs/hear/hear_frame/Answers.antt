use Rattle.beep_standing.proofs.ArriveLemmas.{frame-joins, zero-joins}
use Rattle.beep_hearing.proofs.HearLemmas.{part-joins, zero-edits}
use Rattle.beep_hearing.proofs.DropLemmas.{keeps-arrived}
use Rattle.beep_hearing.proofs.hear.hear_frame.Goals as goal

pub returns-clause-above : goal.returns-clause-above
returns-clause-above c size journal given taken s begun above =
    frame-joins size journal given taken c.args.lives.now c.arrive.new.self c.args.head.now c.args.payload.now s begun above c.in-Ok._arrived c.in-Ok.ensures.ok c.in-Ok.ensures.arrived

pub returns-clause-part : goal.returns-clause-part
returns-clause-part c size journal given taken s begun zero more =
    part-joins size journal given taken c.args.lives.now c.arrive.new.self c.args.head.now c.args.payload.now c.in-Ok._arrived s begun zero more c.in-Ok.ensures.ok c.in-Ok.ensures.arrived

pub returns-clause-zero : goal.returns-clause-zero
returns-clause-zero c = zero-edits c.in-Ok._arrived c.args.head.now.channel _ c.args.lives.now c.arrive.new.self c.in-Ok.ensures.ok

pub returns-clause-last : goal.returns-clause-last
returns-clause-last c size journal given taken s begun zero =
    zero-joins size journal given taken c.args.lives.now c.arrive.new.self c.args.head.now c.args.payload.now s begun zero c.in-Ok._arrived c.in-Ok.ensures.ok c.in-Ok.ensures.arrived

pub returns-clause-others : goal.returns-clause-others
returns-clause-others c = keeps-arrived c.in-Ok._arrived c.args.head.now.channel c.args.head.now c.args.payload.now c.args.lives.now c.arrive.new.self c.in-Ok.ensures.ok
