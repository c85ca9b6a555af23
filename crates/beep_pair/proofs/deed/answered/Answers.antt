use Rattle.std.proofs.Common.{sym, subst}
use Rattle.std.specs.Prelude.{IfOk}
use Rattle.beep_pair.specs.Acts.{Starts}
use Rattle.beep_pair.specs.Sessions.{Acts}
use Rattle.beep_pair.proofs.deed.answered.Goals as goal

pub returns-in-Start-clause-answered : goal.returns-in-Start-clause-answered
returns-in-Start-clause-answered c =
    subst (λ act. IfOk c.start.result (Acts act c.args.n c.args.octets.now c.args.session.now c.start.new.session)) (sym c.in-Start.is)
    (subst (λ uri. IfOk c.start.result (Starts uri c.args.n c.args.session.now c.start.new.session)) c.requires.uri c.start.ensures.answered)
