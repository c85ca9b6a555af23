-- Room alone is made.
use Rattle.beep_peer.proofs.RoomLemmas.{keeps-itself}
use Rattle.beep_peer.proofs.room.reserve_with.Goals as goal

pub returns-in_default-clause-kept : goal.returns-in_default-clause-kept
returns-in_default-clause-kept c = keeps-itself c.args.lives.now c.requires.live

pub returns-in_default-checked_add-clause-kept : goal.returns-in_default-checked_add-clause-kept
returns-in_default-checked_add-clause-kept c = keeps-itself c.args.lives.now c.requires.live

pub returns-in_default-checked_add-2-clause-kept : goal.returns-in_default-checked_add-2-clause-kept
returns-in_default-checked_add-2-clause-kept c = keeps-itself c.args.lives.now c.requires.live
