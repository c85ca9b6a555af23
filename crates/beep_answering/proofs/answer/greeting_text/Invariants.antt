use Rattle.std.proofs.Common.{◌≡◌, map, take}
use Rattle.beep_management.specs.beep_mgmt.specs.Form.{plain_profile}
use Rattle.beep_management.specs.beep_decide.specs.Plain.{plain_offer}
use Rattle.beep_answering.specs.Sent.{plain_listed}
use Rattle.beep_answering.proofs.answer.greeting_text.Given as goal

-- the offers before the place are listed
abbrev pub invariant-loop-offer : goal.invariant-loop-offer
invariant-loop-offer l = map plain_profile l.profiles ≡ map plain_listed (map plain_offer (take l.offer-index l.offers))
