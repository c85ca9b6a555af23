use Rattle.beep_history.specs.declared.journal.Side.{Side}
use Rattle.beep_history.specs.Journal.{told}
use Rattle.beep_journal.specs.Life.{history}
use Rattle.beep_lawful.proofs.LawfulLemmas.{item-lawful, seq-keeps, seq-says}
use Rattle.beep_lawful.proofs.laws.a_lawful_seq_moves_no_edge_left.Goals as goal

pub returns : goal.returns
returns c = record {
  ackno = λ terms tunes later earlier seq l. (seq-says terms tunes earlier (history seq.channel earlier) seq (seq-keeps terms tunes earlier seq (item-lawful terms tunes later earlier (told Side.Sent seq) l)).right).0;
  window = λ terms tunes later earlier seq l. (seq-says terms tunes earlier (history seq.channel earlier) seq (seq-keeps terms tunes earlier seq (item-lawful terms tunes later earlier (told Side.Sent seq) l)).right).1;
  edge = λ terms tunes later earlier seq l. (seq-says terms tunes earlier (history seq.channel earlier) seq (seq-keeps terms tunes earlier seq (item-lawful terms tunes later earlier (told Side.Sent seq) l)).right).2;
}
