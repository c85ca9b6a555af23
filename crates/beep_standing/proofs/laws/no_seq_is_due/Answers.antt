use Rattle.std.proofs.Common.{ℕ}
use Rattle.beep_journal.specs.Life.{history}
use Rattle.beep_lives.specs.Lives.{owes_seq}
use Rattle.beep_standing.specs.Due.{has_due}
use Rattle.beep_standing.proofs.DueLemmas.{channel-due, none-by}
use Rattle.beep_standing.proofs.laws.no_seq_is_due.Goals as goal

pub returns : goal.returns
returns c = λ size journal given taken channels s.
    none-by size journal given taken channels s owes_seq (λ (n : ℕ). has_due size (taken n) (history n journal))
    (channel-due size journal given taken channels s)
