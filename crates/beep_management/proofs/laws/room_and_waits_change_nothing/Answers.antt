use Rattle.beep_management.proofs.SameLemmas.{room-same, waits-same}
use Rattle.beep_management.proofs.laws.room_and_waits_change_nothing.Goals as goal

pub returns : goal.returns
returns c = record {
  room = λ size journal given old new managed mine acts theirs answers starting granted room. record {
    spoken = managed.spoken;
    prepared = managed.prepared;
    is = room-same size journal given old new managed.spoken managed.prepared managed.is mine acts theirs answers starting granted room;
  };
  waits = λ size journal given m one managed. record {
    spoken = managed.spoken;
    prepared = managed.prepared;
    is = waits-same size journal given m one managed.spoken managed.prepared managed.is;
  };
}
