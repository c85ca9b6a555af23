use Rattle.beep_standing.proofs.DueLemmas.{channel-due, channel-ready, channel-untaken, channel-unsent, channel-drained}
use Rattle.beep_standing.proofs.laws.a_channel_tells_what_its_life_is.Goals as goal

pub returns : goal.returns
returns c = record {
  due = λ size n journal given taken channels c s at. channel-due size journal given taken channels s n c at;
  ready = λ size n journal given taken channels c s at. channel-ready size journal given taken channels s n c at;
  untaken = λ size n journal given taken channels c s at. channel-untaken size journal given taken channels s n c at;
  unsent = λ size n journal given taken channels c s at. channel-unsent size journal given taken channels s n c at;
  drained = λ size n journal given taken channels c s at. channel-drained size journal given taken channels s n c at;
}
