use Rattle.beep_text.proofs.WrittenLemmas.{canonical-body}
use Rattle.beep_text.proofs.write.is_body.Goals as goal

pub returns : goal.returns
returns c = canonical-body c.args.e.now c.name.ensures.lawful
