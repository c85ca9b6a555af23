use Rattle.std.proofs.Common.{◌≡◌, ◌∙◌, ap, ◌++◌, arith}
use Rattle.std.specs.List.{flat_map, range_with_len}
use Rattle.beep_schedule.specs.declared.limits.TheConstants.{REQUESTS}
use Rattle.beep_schedule.specs.Generated.{request_events}
use Rattle.beep_schedule.proofs.MadeLemmas.{flat_more}
use Rattle.beep_schedule.proofs.generate.push_requests.Goals as goal

pub loop-i-preserved : goal.loop-i-preserved
loop-i-preserved c =
    c.in_ok-push_request.ensures ∙ ap (λ xs. xs ++ request_events c.args.seed c.loop-i.i) c.loop-i.invariant ∙ flat_more (request_events c.args.seed) c.args.schedule.now c.loop-i.i

pub returns : goal.returns
returns c =
    let all : c.loop-i.i ≡ REQUESTS = omega arith in
    c.loop-i.invariant ∙ ap (λ k. c.args.schedule.now ++ flat_map (request_events c.args.seed) (range_with_len 0 k)) all
