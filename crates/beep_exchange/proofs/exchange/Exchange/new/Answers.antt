-- On channel zero both directions were opened, and else both are fresh.
use Rattle.std.proofs.Common.{◌∙◌}
use Rattle.beep_exchange.proofs.ExchangeLemmas.{stands-fresh, stands-opening}
use Rattle.beep_exchange.proofs.exchange.Exchange.new.Goals as goal
use Rattle.beep_exchange.proofs.exchange.Exchange.new.Goals.{then-zero, else-zero}

pub returns-clause-stands : goal.returns-clause-stands
returns-clause-stands c = elim c.if-zero.branch [
  | then-zero w ↦ rw w.if-zero.true (stands-opening _ (w.received-is ∙ w.open.ensures) (w.sent-is ∙ w.open-then-zero.ensures))
  | else-zero w ↦ rw w.if-zero.false (stands-fresh _ (w.received-is ∙ c.in_ok-received.ensures) (w.sent-is ∙ c.in_ok-sent.ensures))
]
