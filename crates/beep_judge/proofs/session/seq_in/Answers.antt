-- Either side is judged as the other.
use Rattle.std.proofs.Common.{◌∷◌}
use Rattle.beep_history.specs.Journal.{told}
use Rattle.beep_judge.proofs.ContentLemmas.{either}
use Rattle.beep_judge.proofs.session.seq_in.Goals as goal

pub returns-clause-none : goal.returns-clause-none
returns-clause-none c none journal s =
    either c.args.side journal (told c.args.side c.args.seq.now ∷ journal) c.args.session.now.channels c.note_seq.new.channels c.args.session.now.received c.args.session.now.sent
    (λ mine theirs k. c.note_seq.ensures.none none mine theirs journal k) s
