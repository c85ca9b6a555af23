-- A SEQ of either side joins the life's history.
use Rattle.std.proofs.Common.{refl}
use Rattle.beep_history.specs.declared.journal.Side.{Side}
use Rattle.beep_judge.proofs.LifeLemmas.{told-in-at, told-out-at}
use Rattle.beep_judge.proofs.life.Life.obey.Goals as goal

pub returns-in-Received-clause-stands : goal.returns-in-Received-clause-stands
returns-in-Received-clause-stands c past s =
    told-in-at c.args.self.now past s c.args.side c.in-Received.is c.ack.new.self c.args.seq.now (c.ack.ensures Side.Sent past c.args.seq.now s.written refl)

pub returns-in-Sent-clause-stands : goal.returns-in-Sent-clause-stands
returns-in-Sent-clause-stands c past s =
    told-out-at c.args.self.now past s c.args.side c.in-Sent.is c.ack-in-Sent.new.self c.args.seq.now c.greater-self.result c.greater-self.ensures
    (c.ack-in-Sent.ensures Side.Received past c.args.seq.now s.read refl)
