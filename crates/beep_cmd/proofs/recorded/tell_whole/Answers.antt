use Rattle.std.proofs.Common.{◌≡◌, [], ◌∷◌, ◌++◌, codes, rules}
use Rattle.std.specs.Fmt.{decimal}
use Rattle.beep_cmd.proofs.RecordedLemmas.{record_tells}
use Rattle.beep_cmd.proofs.recorded.tell_whole.Goals as goal

pub returns : goal.returns
returns g c = λ role link within r.
    let text : c.append_numbered.new.out.octets ≡ (c.args.out.now.octets ++ codes "S " ++ decimal c.args.status) ++ 10 ∷ [] = search rules in
    record_tells role link c.args.status c.tell.result c.args.out.now.octets c.append_numbered.new.out.octets (g.O.Sink.state c.args.output.now) (g.O.Sink.state c.tell.new.output) within r text c.tell.ensures.written
