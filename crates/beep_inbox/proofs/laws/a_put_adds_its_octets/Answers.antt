use Rattle.beep_inbox.proofs.laws.a_put_adds_its_octets.Goals as goal
use Rattle.beep_inbox.proofs.RunsLemmas.{put-octets}

pub returns : goal.returns
returns c = put-octets
