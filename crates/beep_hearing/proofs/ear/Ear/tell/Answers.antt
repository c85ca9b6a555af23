use Rattle.std.proofs.Common.{sym, ap, ◌∙◌}
use Rattle.beep_hearing.specs.Left.{heard_by, last_place}
use Rattle.beep_hearing.proofs.ear.Ear.tell.Goals as goal

pub returns-in-Some-clause-value : goal.returns-in-Some-clause-value
returns-in-Some-clause-value c size journal given taken s =
    c.stop.ensures.value ∙ ap (λ o. heard_by o (last_place c.args.self.now.used)) (sym c.in-Some.is ∙ c.hear_seq.ensures.value size journal given taken s)

pub returns-in-None-clause-value : goal.returns-in-None-clause-value
returns-in-None-clause-value c size journal given taken s =
    ap (λ o. heard_by o (last_place c.args.self.now.used)) (sym c.in-None.is ∙ c.hear_seq.ensures.value size journal given taken s)

pub returns-in-None-clause-more : goal.returns-in-None-clause-more
returns-in-None-clause-more c more = c.hear_seq.ensures.none c.in-None.is
