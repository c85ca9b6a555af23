-- A header of either side joins the life's history.
use Rattle.beep_judge.proofs.LifeLemmas.{began-in-at, began-out-at}
use Rattle.beep_judge.proofs.life.Life.begin.Goals as goal

pub returns-in-Received-clause-stands : goal.returns-in-Received-clause-stands
returns-in-Received-clause-stands c past s none =
    began-in-at c.args.self.now past s c.args.side c.in-Received.is c.note_in.new.self c.args.head.now none (c.note_in.ensures.stands past s.exchange)

pub returns-in-Sent-clause-stands : goal.returns-in-Sent-clause-stands
returns-in-Sent-clause-stands c past s none =
    began-out-at c.args.self.now past s c.args.side c.in-Sent.is c.note_out.new.self c.args.head.now (c.note_out.ensures.stands past s.exchange)
