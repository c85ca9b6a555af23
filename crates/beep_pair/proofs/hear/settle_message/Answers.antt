use Rattle.std.proofs.Common.{Err}
use Rattle.beep_pair.specs.Sessions.{settles, breaks}
use Rattle.beep_pair.proofs.hear.settle_message.Goals as goal

pub returns-in-Ok : goal.returns-in-Ok
returns-in-Ok c = settles (λ fed journal given taken head payload w. c.in-Ok.ensures.ok fed journal given taken head payload w)
    (λ fed journal given taken head payload w u. c.in-Ok.ensures.upright fed journal given taken head payload w u) c.in-Ok.ensures.same

pub returns-in-Err-Broken : goal.returns-in-Err-Broken
returns-in-Err-Broken c =
    breaks c.in-Err-Broken._rule c.in-Err-Broken._place
    (c.in-Err-Broken.ensures.stopped c.in-Err-Broken._rule c.in-Err-Broken._place (λ i. Err (c.in-Err-Broken.field-0-is i)))
    (λ fed journal given taken head payload w.
    let b = c.in-Err-Broken.ensures.broken fed journal given taken head payload c.in-Err-Broken._rule c.in-Err-Broken._place w (λ i. Err (c.in-Err-Broken.field-0-is i)) in (b.2, b.3))
    c.in-Err-Broken.ensures.same
