use Rattle.beep_text.proofs.LawLemmas.{canonical_again}
use Rattle.beep_text.proofs.laws.canonical_text_is_written_again.Goals as goal

pub returns : goal.returns
returns c = canonical_again
