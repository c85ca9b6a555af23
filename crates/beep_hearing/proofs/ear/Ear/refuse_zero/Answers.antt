use Rattle.std.proofs.Common.{refl}
use Rattle.beep_hearing.proofs.WaitLemmas.{waits-place}
use Rattle.beep_hearing.proofs.ear.Ear.refuse_zero.Goals as goal

pub returns-clause-place : goal.returns-clause-place
returns-clause-place c size fed journal given taken head payload w =
    waits-place size fed journal given taken head payload c.args.self.now c.args.lives.now w c.pass_zero.new.self.used _
    (c.pass_zero.ensures.hears size fed journal given taken head payload w).is_fed.used_is refl
