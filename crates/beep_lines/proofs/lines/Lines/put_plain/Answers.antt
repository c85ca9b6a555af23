-- What was written before a stop is a beginning of all.
use Rattle.std.proofs.Common.{rules, [], ◌∷◌, ◌++◌}
use Rattle.beep_lines.proofs.LineLemmas.{some-longer}
use Rattle.beep_lines.proofs.lines.Lines.put_plain.Goals as goal

pub returns-in_err-make_room-clause-err : goal.returns-in_err-make_room-clause-err
returns-in_err-make_room-clause-err g c =
    search (
      rules,
      some-longer (g.O.Sink.state c.args.output.now).written (g.O.Sink.state c.make_room.new.output).written c.args.self.now.octets.octets [] (c.args.entry.now ++ 10 ∷ []) c.make_room.new.self.octets.octets
          c.in_err-make_room.ensures.err,
    )
