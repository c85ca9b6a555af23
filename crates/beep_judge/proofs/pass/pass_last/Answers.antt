-- A request or a reply is whole.
use Rattle.std.proofs.Common.{sym, ◌∙◌}
use Rattle.std.proofs.Math.Logic.{∥∥₁_map}
use Rattle.beep_judge.proofs.ContentLemmas.{content-request, content-reply}
use Rattle.beep_judge.proofs.pass.pass_last.Goals as goal

pub pass_request-requires-clause-reached : goal.pass_request-requires-clause-reached
pass_request-requires-clause-reached c = ∥∥₁_map c.requires.reached (λ s. (c.args.theirs.now, s.0, s.1))

pub returns-in-Ok-pass_request-clause-value : goal.returns-in-Ok-pass_request-clause-value
returns-in-Ok-pass_request-clause-value c journal s =
    content-request c.args.side journal c.args.frame.now.head c.args.payload.now (sym c.is_msg.ensures ∙ c.if-is_msg.true)

pub returns-in-Ok-pass_request-clause-ok : goal.returns-in-Ok-pass_request-clause-ok
returns-in-Ok-pass_request-clause-ok c journal s size = c.in-Ok-pass_request.ensures.ok c.args.theirs.now journal c.args.payload.now s size c.in-Ok.ensures

pub returns-in-Ok-pass_reply-clause-value : goal.returns-in-Ok-pass_reply-clause-value
returns-in-Ok-pass_reply-clause-value c journal s =
    c.zero_reply.ensures
    ∙ content-reply c.args.side journal c.args.frame.now.head c.args.payload.now c.in-Ok-pass_reply.fits c.requires.zero
    (sym c.is_msg.ensures ∙ c.if-is_msg.false) c.requires.last (c.in-Ok-pass_reply.ensures.value journal c.args.payload.now s c.in-Ok.ensures)

pub returns-in-Ok-pass_reply-clause-ok : goal.returns-in-Ok-pass_reply-clause-ok
returns-in-Ok-pass_reply-clause-ok c journal s size = c.in-Ok-pass_reply.ensures.ok journal c.args.payload.now s size c.in-Ok.ensures
