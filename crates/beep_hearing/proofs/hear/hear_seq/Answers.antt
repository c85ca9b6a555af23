use Rattle.std.proofs.Common.{true, false, refl, sym}
use Rattle.beep_standing.proofs.ArriveLemmas.{seq-joins}
use Rattle.beep_hearing.proofs.HearLemmas.{seq-heard}
use Rattle.beep_standing.specs.beep_lives.specs.Edits.{Obeys}
use Rattle.beep_hearing.proofs.RoomLemmas.{room-where, room-same}
use Rattle.beep_hearing.proofs.hear.hear_seq.Goals as goal

pub returns-in-Ok-clause-value : goal.returns-in-Ok-clause-value
returns-in-Ok-clause-value c size journal given taken s =
    seq-heard size journal given taken c.args.lives.now c.args.seq.now false s c.in-Ok.ensures.refused (λ none. refl)

pub returns-in-Ok-clause-none : goal.returns-in-Ok-clause-none
returns-in-Ok-clause-none c none size journal given taken s =
    seq-joins size journal given taken c.args.lives.now c.acked.new.self c.args.seq.now s c.in-Ok._obeyed (sym c.in-Ok.ensures.obeyed) c.in-Ok.ensures.ok

pub returns-in-Err-clause-value : goal.returns-in-Err-clause-value
returns-in-Err-clause-value c size journal given taken s =
    seq-heard size journal given taken c.args.lives.now c.args.seq.now true s c.in-Err.ensures.refused (λ none. sym (c.in-Err.ensures.none none))

pub returns-in-Ok-clause-room : goal.returns-in-Ok-clause-room
returns-in-Ok-clause-room c =
    room-where c.in-Ok._obeyed c.args.seq.now.channel (Obeys c.args.seq.now) c.args.lives.now c.acked.new.self (λ b a s. s.keeps) c.in-Ok.ensures.ok

pub returns-in-Err-clause-room : goal.returns-in-Err-clause-room
returns-in-Err-clause-room c = room-same c.args.lives.now c.acked.new.self c.in-Err.ensures.err
