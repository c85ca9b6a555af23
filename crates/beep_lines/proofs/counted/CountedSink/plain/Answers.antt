-- What was counted is what was written, where that is known.
use Rattle.beep_lines.proofs.CountLemmas.{counts-is}
use Rattle.beep_lines.proofs.counted.CountedSink.plain.Goals as goal

pub returns-clause-counted : goal.returns-clause-counted
returns-clause-counted g c =
    let self = c.args.self in
    counts-is g.K.Counting.known (g.O.Sink.state self.output.now).written self.lines self.counted
