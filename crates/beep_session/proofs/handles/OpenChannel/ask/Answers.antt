-- No own close of an open channel waits.
use Rattle.beep_session.proofs.handles.OpenChannel.ask.Goals as goal

pub returns-clause-upright : goal.returns-clause-upright
returns-clause-upright c = λ fed rest journal given taken s u. c.ask.ensures.upright fed rest journal given taken c.requires.unclosed s u
