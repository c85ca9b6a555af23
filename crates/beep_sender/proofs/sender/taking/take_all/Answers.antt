-- A frame is taken part by part, until none is left.
use Rattle.std.proofs.Common.{◌∙◌, refl, arith}
use Rattle.beep_steps.proofs.CallLemmas.{stays, stays-trans}
use Rattle.beep_sender.proofs.TakingLemmas.{none-takes, part-takes, takes-over}
use Rattle.beep_sender.proofs.sender.taking.take_all.Goals as goal

pub loop-init : goal.loop-init
loop-init c = record {
  stays = stays c.args.session.now;
  sending = λ plan p log s. s;
  scripted = λ plan p log s. s;
  asking = λ plan p log x d. d;
  taking = λ log t. t;
  length_is = refl;
}

pub loop-preserved : goal.loop-preserved
loop-preserved c =
    let i = c.loop.invariant in
    let e = c.take_part.ensures in
    let new = c.take_part.new.session in
    record {
      stays = stays-trans c.args.session.now c.loop.session new i.stays e.stays;
      sending = λ plan p log s. e.sending plan p log (i.sending plan p log s);
      scripted = λ plan p log s. e.scripted plan p log (i.scripted plan p log s);
      asking = λ plan p log x d. e.asking plan p log (i.scripted plan p log x) (i.asking plan p log x d);
      taking = λ log t. part-takes c.args.number c.loop.counter c.loop.session new log (i.taking log t) c.in-Some._part c.take_part.new.buf e.stays (λ log left. c.in-Some.ensures.part log left);
      length_is = e.length ∙ i.length_is;
    }

pub returns-in_default : goal.returns-in_default
returns-in_default c =
    let i = c.loop.invariant in
    let e = c.take_part.ensures in
    let new = c.take_part.new.session in
    record {
      stays = stays-trans c.args.session.now c.loop.session new i.stays e.stays;
      sending = λ plan p log s. e.sending plan p log (i.sending plan p log s);
      scripted = λ plan p log s. e.scripted plan p log (i.scripted plan p log s);
      asking = λ plan p log x d. e.asking plan p log (i.scripted plan p log x) (i.asking plan p log x d);
      taken = λ log t. none-takes c.args.number c.loop.counter c.loop.session new log (i.taking log t) (λ log. c.in_default.ensures.none log);
      length = e.length ∙ i.length_is;
    }

-- it has no more parts than the loop has turns
pub returns-clause-taken : goal.returns-clause-taken
returns-clause-taken c log t =
    let few = takes-over c.args.number c.loop.counter c.loop.session log (c.loop.invariant.taking log t) in
    absurd (omega (arith, few, c.loop-test.false))
