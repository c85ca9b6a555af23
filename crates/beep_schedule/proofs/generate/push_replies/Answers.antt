use Rattle.beep_schedule.specs.Generated.{reply_to}
use Rattle.beep_schedule.proofs.MadeLemmas.{next_item}
use Rattle.beep_schedule.proofs.generate.push_replies.Goals as goal

pub loop-i-preserved : goal.loop-i-preserved
loop-i-preserved c =
    next_item reply_to c.args.schedule.now c.loop-i.schedule c.push.new.self _ c.loop-i.i c.loop-i.invariant c.reply_to.ensures c.in_ok-push.ensures.ok
