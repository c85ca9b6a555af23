use Rattle.beep_management.proofs.ItemLemmas.{header-stays, seq-stays, above-stays, part-stays}
use Rattle.beep_management.proofs.laws.what_ends_no_message_leaves_it.Goals as goal

pub returns : goal.returns
returns c = record { header = header-stays; seq = seq-stays; above = above-stays; part = part-stays }
