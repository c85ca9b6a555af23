use Rattle.beep_mime.proofs.SplitLemmas.{body_of-header}
use Rattle.beep_mime.proofs.laws.the_body_follows_the_header.Goals as goal

pub returns : goal.returns
returns c = body_of-header
