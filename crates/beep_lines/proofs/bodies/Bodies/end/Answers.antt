-- One of the same number is over each time, until none is found.
use Rattle.std.proofs.Common.{◌∙◌, sym}
use Rattle.beep_turns.proofs.PlaceLemmas.{none-found}
use Rattle.beep_lines.specs.Bodies.{is_of}
use Rattle.beep_lines.proofs.BodyLemmas.{body-none, ended-fewer, ended-others, others-trans}
use Rattle.beep_lines.proofs.bodies.Bodies.end.Goals as goal

pub loop-i-smaller : goal.loop-i-smaller
loop-i-smaller c = ended-fewer c.args.channel c.args.ansno c.loop-i.self c.end_at.new.self c.in-Some.i (sym c.place.ensures ∙ c.in-Some.is) c.end_at.ensures

pub loop-i-preserved : goal.loop-i-preserved
loop-i-preserved c =
    others-trans c.args.channel c.args.ansno c.args.self.now c.loop-i.self c.end_at.new.self c.loop-i.invariant
    (ended-others c.args.channel c.args.ansno c.loop-i.self c.end_at.new.self c.in-Some.i (sym c.place.ensures ∙ c.in-Some.is) c.end_at.ensures)

pub returns : goal.returns
returns c = record {
  nowhere = none-found (is_of c.args.channel c.args.ansno) c.loop-i.self (sym c.place.ensures ∙ c.in_default.is);
  own = body-none c.args.channel c.args.ansno c.loop-i.self (none-found (is_of c.args.channel c.args.ansno) c.loop-i.self (sym c.place.ensures ∙ c.in_default.is));
  others = c.loop-i.invariant;
}
