use Rattle.beep_history.proofs.WindowsLemmas.{departures-passed, departures-told, arrivals-passed, arrivals-told}
use Rattle.beep_history.proofs.laws.items_give_the_counts_of_windows.Goals as goal

pub returns : goal.returns
returns c = record {
  sent = departures-passed;
  heard = departures-told;
  received = arrivals-passed;
  advertised = arrivals-told;
}
