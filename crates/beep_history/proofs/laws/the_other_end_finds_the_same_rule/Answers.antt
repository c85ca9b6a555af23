use Rattle.beep_history.proofs.MirrorLemmas.{exchange-mirror, within-mirror, edge-mirror, departures-mirror}
use Rattle.beep_history.proofs.laws.the_other_end_finds_the_same_rule.Goals as goal

pub returns : goal.returns
returns c = record {
  exchange = exchange-mirror;
  within = within-mirror;
  edge = edge-mirror;
  counts = departures-mirror;
}
