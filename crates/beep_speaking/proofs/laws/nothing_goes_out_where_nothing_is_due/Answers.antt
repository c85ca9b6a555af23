use Rattle.std.proofs.Common.{ℕ}
use Rattle.beep_standing.specs.beep_journal.specs.Life.{history}
use Rattle.beep_standing.specs.beep_lives.specs.Lives.{can_send, owes_seq}
use Rattle.beep_standing.specs.Due.{has_due, has_ready}
use Rattle.beep_standing.proofs.DueLemmas.{channel-due, channel-ready, none-by}
use Rattle.beep_speaking.proofs.laws.nothing_goes_out_where_nothing_is_due.Goals as goal

pub returns : goal.returns
returns c = record {
  seq = λ size most greeted journal given taken old new before after s w is.
      (none-by size journal given taken old s owes_seq (λ (n : ℕ). has_due size (taken n) (history n journal))
      (channel-due size journal given taken old s)).0 (w.0 is);
  frame = λ size most greeted journal given taken old new before after s w.
      (none-by size journal given taken old s can_send (λ (n : ℕ). has_ready (given n) (history n journal))
      (channel-ready size journal given taken old s)).0 w.1;
}
