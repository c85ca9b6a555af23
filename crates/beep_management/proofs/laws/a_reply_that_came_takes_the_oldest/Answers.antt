use Rattle.std.proofs.Common.{[]}
use Rattle.beep_asked.specs.beep_history.specs.declared.journal.Side.{Side}
use Rattle.beep_asked.specs.beep_journal.specs.Zero.{zero_history}
use Rattle.beep_asked.proofs.LawsLemmas.{reply-waits}
use Rattle.beep_management.proofs.ReceivedLemmas.{oldest-starts, start-has-one, reply-refused, reply-granted}
use Rattle.beep_management.proofs.laws.a_reply_that_came_takes_the_oldest.Goals as goal

pub returns : goal.returns
returns c = record {
  waits = λ size journal given m head managed r. reply-waits Side.Received head [] (zero_history journal) r m.mine.requests managed.is.mine;
  fresh = λ size journal given m later one first starting managed split are count.
      (oldest-starts size journal given m managed.spoken managed.prepared managed.is later one split first starting are count).0;
  channel = λ size journal given m later one managed split. start-has-one size journal given m managed.spoken managed.prepared managed.is later one split;
  refused = λ size journal given m head payload later one first starting mine managed zero r split refused are count rest room. record {
    spoken = managed.spoken;
    prepared = managed.prepared;
    is = reply-refused size journal given m head payload managed.spoken managed.prepared managed.is zero r later one split refused first starting mine are count rest room;
  };
  granted = λ size journal given m head payload later one first starting mine acts theirs managed zero r split granted are count rest room acts-are theirs-are. record {
    spoken = managed.spoken;
    prepared = managed.prepared;
    is = reply-granted size journal given m head payload managed.spoken managed.prepared managed.is zero r later one split granted first starting mine acts theirs are count rest room acts-are theirs-are;
  };
}
