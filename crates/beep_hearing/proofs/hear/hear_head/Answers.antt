-- Each exit is a rule in its order.
use Rattle.std.proofs.Common.{true, false, sym, ◌∙◌}
use Rattle.beep_standing.proofs.ArriveLemmas.{judged-by, header-joins}
use Rattle.beep_hearing.proofs.HearLemmas.{exit-greeting, exit-judged, exit-zero}
use Rattle.beep_standing.specs.beep_lives.specs.Edits.{Begins}
use Rattle.beep_hearing.proofs.RoomLemmas.{room-edit}
use Rattle.beep_hearing.proofs.hear.hear_head.Goals as goal

pub returns-then-lacks_greeting-clause-value : goal.returns-then-lacks_greeting-clause-value
returns-then-lacks_greeting-clause-value c size journal given taken s heard within =
    exit-greeting journal c.args.head.now c.args.heard _ within heard (judged-by size journal given taken c.args.lives.now c.args.head.now s)
    c.lacks_greeting.result c.lacks_greeting.ensures c.if-lacks_greeting.true

pub returns-in-Some-clause-value : goal.returns-in-Some-clause-value
returns-in-Some-clause-value c size journal given taken s heard within =
    exit-judged journal c.args.head.now c.args.heard _ within heard (judged-by size journal given taken c.args.lives.now c.args.head.now s)
    c.lacks_greeting.result c.lacks_greeting.ensures c.in-Some.rule c.if-lacks_greeting.false (sym c.judge.ensures ∙ c.in-Some.is)

pub returns-then-breaks_zero_reply-clause-value : goal.returns-then-breaks_zero_reply-clause-value
returns-then-breaks_zero_reply-clause-value c size journal given taken s heard within =
    exit-zero journal c.args.head.now c.args.heard _ within heard (judged-by size journal given taken c.args.lives.now c.args.head.now s)
    c.lacks_greeting.result c.lacks_greeting.ensures true c.if-lacks_greeting.false (sym c.judge.ensures ∙ c.in_default.is)
    (sym c.if-breaks_zero_reply.true ∙ c.breaks_zero_reply.ensures)

pub returns-clause-value : goal.returns-clause-value
returns-clause-value c size journal given taken s heard within =
    exit-zero journal c.args.head.now c.args.heard _ within heard (judged-by size journal given taken c.args.lives.now c.args.head.now s)
    c.lacks_greeting.result c.lacks_greeting.ensures false c.if-lacks_greeting.false (sym c.judge.ensures ∙ c.in_default.is)
    (sym c.if-breaks_zero_reply.false ∙ c.breaks_zero_reply.ensures)

pub returns-clause-none : goal.returns-clause-none
returns-clause-none c none size journal given taken s idle =
    header-joins size journal given taken c.args.lives.now c.begin.new.self c.args.head.now s idle c.begin.ensures

pub returns-clause-room : goal.returns-clause-room
returns-clause-room c = room-edit c.args.head.now.channel (Begins c.args.head.now) c.args.lives.now c.begin.new.self (λ b a s. s.keeps) c.begin.ensures
