use Rattle.beep_standing.proofs.SendLemmas.{room-stays}
use Rattle.beep_standing.specs.beep_lives.specs.Edits.{KeepsHeld}
use Rattle.beep_hearing.proofs.RoomLemmas.{room-where}
use Rattle.beep_hearing.proofs.ear.Ear.make_room.Goals as goal

pub returns-in-Some-clause-kept : goal.returns-in-Some-clause-kept
returns-in-Some-clause-kept c size journal given taken s =
    room-stays size c.in-Some.head.channel journal journal given taken c.args.lives.now c.make_room.new.self s _ c.make_room.ensures.kept

pub returns-in-Some-clause-room : goal.returns-in-Some-clause-room
returns-in-Some-clause-room c =
    room-where _ c.in-Some.head.channel KeepsHeld c.args.lives.now c.make_room.new.self (λ b a s. s.keeps) c.make_room.ensures.kept
