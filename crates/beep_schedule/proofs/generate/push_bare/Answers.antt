use Rattle.std.proofs.Common.{◌≡◌}
use Rattle.beep_schedule.specs.Generated.{bare_of}
use Rattle.beep_schedule.proofs.MadeLemmas.{next_item}
use Rattle.beep_schedule.proofs.generate.push_bare.Goals as goal

pub loop-j-preserved : goal.loop-j-preserved
loop-j-preserved c =
    next_item (bare_of c.args.act) c.args.schedule.now c.loop-j.schedule c.push.new.self _ c.loop-j.j c.loop-j.invariant (let e : c.bare.result ≡ bare_of c.args.act c.loop-j.j = cc in e) c.in_ok-push.ensures.ok
