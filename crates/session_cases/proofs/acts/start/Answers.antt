-- One profile without content may be written, and comes back as it was written.
use Rattle.session_cases.proofs.acts.start.Goals as goal

pub start-requires-clause-writable : goal.start-requires-clause-writable
start-requires-clause-writable c = c.in_ok-profiles.ensures.writable c.args.number

pub start-requires-clause-back : goal.start-requires-clause-back
start-requires-clause-back c = c.in_ok-profiles.ensures.back c.args.number
