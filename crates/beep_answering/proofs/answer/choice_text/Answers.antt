-- The message of a choice is short enough to be read.
use Rattle.std.proofs.Common.{ap}
use Rattle.beep_management.specs.beep_mgmt.specs.Form.{PlainProfile, chosen}
use Rattle.beep_management.specs.beep_decide.specs.Plain.{plain_offer}
use Rattle.beep_answering.specs.Sent.{plain_listed}
use Rattle.beep_answering.proofs.LengthLemmas.{chosen-length, plain-back}
use Rattle.beep_answering.proofs.MessageLemmas.{is-message-of}
use Rattle.beep_answering.proofs.answer.choice_text.Goals as goal

pub returns : goal.returns
returns c =
    is-message-of (λ o. o.octets) c.message_of.result _ (chosen (plain_listed (plain_offer c.args.offer.now))) (ap (λ (p : PlainProfile). chosen p) c.in_ok-profile.ensures)
    c.message_of.ensures.text c.message_of.ensures.says plain-back (chosen-length (plain_offer c.args.offer.now) c.requires.uri)
