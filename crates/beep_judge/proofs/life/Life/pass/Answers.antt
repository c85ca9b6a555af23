-- Each side has its own step.
use Rattle.std.proofs.Common.{◌∷◌, sym, subst}
use Rattle.beep_history.specs.declared.journal.Side.{Side}
use Rattle.beep_history.specs.Journal.{passed}
use Rattle.beep_judge.specs.Lived.{IsLife}
use Rattle.beep_judge.proofs.life.Life.pass.Goals as goal

pub returns-in-Received-clause-stands : goal.returns-in-Received-clause-stands
returns-in-Received-clause-stands c past payload s size =
    subst (λ (x : Side). IsLife c.pass_in.new.self (passed x c.args.head.now payload ∷ past)) (sym c.in-Received.is)
    (c.pass_in.ensures.stands past payload s size)

pub returns-in-Sent-clause-stands : goal.returns-in-Sent-clause-stands
returns-in-Sent-clause-stands c past payload s size =
    subst (λ (x : Side). IsLife c.pass_out.new.self (passed x c.args.head.now payload ∷ past)) (sym c.in-Sent.is)
    (c.pass_out.ensures.stands past payload s size)
