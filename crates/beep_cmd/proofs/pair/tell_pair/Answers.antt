use Rattle.beep_cmd.proofs.PairLemmas.{made_tells}
use Rattle.beep_cmd.proofs.pair.tell_pair.Goals as goal

pub returns-in_ok-tell_made-in-Some-clause-ok : goal.returns-in_ok-tell_made-in-Some-clause-ok
returns-in_ok-tell_made-in-Some-clause-ok g c =
    made_tells c.args.settings c.in-Some.seed c.tell_made.new.out.octets (g.I.Source.state c.args.input.now) c.in-Some.is c.in_ok-tell_made-in-Some.ensures
