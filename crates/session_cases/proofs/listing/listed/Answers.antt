-- A profile without content is read as it was written.
use Rattle.std.proofs.Common.{true, refl}
use Rattle.beep_session.specs.beep_chars.proofs.BoolLemmas.{both}
use Rattle.beep_session.specs.beep_answering.proofs.LengthLemmas.{plain-back}
use Rattle.session_cases.proofs.listing.listed.Goals as goal

pub returns-clause-back : goal.returns-clause-back
returns-clause-back c number = rw (c.in_ok-push.ensures.appended, c.new-profiles.ensures, c.new.ensures) (both _ true plain-back refl)
