use Rattle.beep_history.specs.declared.journal.Side.{Side}
use Rattle.beep_history.specs.Journal.{began, passed, told}
use Rattle.beep_lawful.proofs.LawfulLemmas.{item-lawful, head-unbroken, content-unbroken, seq-keeps}
use Rattle.beep_lawful.proofs.laws.a_lawful_end_breaks_no_rule_of_its_peer.Goals as goal

pub returns : goal.returns
returns c = record {
  header = λ terms tunes later earlier head l. head-unbroken terms tunes earlier head (item-lawful terms tunes later earlier (began Side.Sent head) l);
  content = λ terms tunes later earlier head payload l. content-unbroken terms tunes earlier head payload (item-lawful terms tunes later earlier (passed Side.Sent head payload) l);
  seq = λ terms tunes later earlier seq l. (seq-keeps terms tunes earlier seq (item-lawful terms tunes later earlier (told Side.Sent seq) l)).unbroken;
}
