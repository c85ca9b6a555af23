-- Either side is judged as the other.
use Rattle.std.proofs.Math.Logic.{∥∥₁_map}
use Rattle.beep_judge.proofs.ContentLemmas.{to-sent}
use Rattle.beep_judge.proofs.session.begin_in.Goals as goal

pub begin-requires-clause-reached : goal.begin-requires-clause-reached
begin-requires-clause-reached c = ∥∥₁_map c.requires.reached (λ s. (c.args.session.now.sent, s.0, s.1))

pub begin-requires-in-Sent-clause-reached : goal.begin-requires-in-Sent-clause-reached
begin-requires-in-Sent-clause-reached c = ∥∥₁_map c.requires.reached
    (λ s. (c.args.session.now.received, s.0, to-sent s.0 c.args.session.now.channels c.args.session.now.received c.args.session.now.sent s.1))
