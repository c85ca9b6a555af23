use Rattle.std.proofs.Common.{ℕ}
use Rattle.beep_journal.specs.Life.{history}
use Rattle.beep_lives.specs.Lives.{can_send}
use Rattle.beep_standing.specs.Due.{has_ready}
use Rattle.beep_standing.proofs.DueLemmas.{channel-ready, none-by}
use Rattle.beep_standing.proofs.laws.none_is_ready.Goals as goal

pub returns : goal.returns
returns c = λ size journal given taken channels s.
    none-by size journal given taken channels s can_send (λ (n : ℕ). has_ready (given n) (history n journal))
    (channel-ready size journal given taken channels s)
