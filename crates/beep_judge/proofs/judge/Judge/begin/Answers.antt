-- The header joins the journal, or nothing changes.
use Rattle.beep_history.specs.Journal.{began}
use Rattle.beep_judge.proofs.JudgeLemmas.{joins}
use Rattle.beep_judge.proofs.judge.Judge.begin.Goals as goal

pub invariant_of-self : goal.invariant_of-self
invariant_of-self c =
    joins c.self.inside.session c.begin_in.new.session (began c.args.side c.args.head.now) c.begin_in.result c.self.invariant
    c.begin_in.ensures.none c.begin_in.ensures.some
