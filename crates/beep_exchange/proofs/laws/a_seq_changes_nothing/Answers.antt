use Rattle.beep_exchange.proofs.ExchangeLemmas.{told-any}
use Rattle.beep_exchange.proofs.laws.a_seq_changes_nothing.Goals as goal

pub returns : goal.returns
returns c = λ life past by seq s. told-any life past s by seq
