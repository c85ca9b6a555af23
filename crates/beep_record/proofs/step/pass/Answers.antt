use Rattle.std.proofs.Common.{List, ℕ, ◌∷◌, subst}
use Rattle.beep_history.specs.Journal.{passed}
use Rattle.beep_judge.specs.Judges.{Judges}
use Rattle.beep_record.proofs.step.pass.Goals as goal

pub returns-clause-ok : goal.returns-clause-ok
returns-clause-ok c journal octets frames head payload judges begun was_fed =
    subst (λ (p : List ℕ). Judges c.pass.new.self (passed c.args.side head p ∷ journal)) (c.frame-frame.ensures octets frames head payload was_fed).1
    (c.in_ok-rule.ensures.ok journal head judges begun)
