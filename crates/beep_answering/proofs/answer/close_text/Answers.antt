-- The message of a close is short enough to be read.
use Rattle.std.proofs.Common.{refl}
use Rattle.beep_answering.specs.Sent.{closing_of}
use Rattle.beep_answering.proofs.LengthLemmas.{closing-length}
use Rattle.beep_answering.proofs.MessageLemmas.{is-message-of}
use Rattle.beep_answering.proofs.answer.close_text.Goals as goal

pub returns : goal.returns
returns c =
    is-message-of (λ o. o.octets) c.message_of.result _ (closing_of c.args.number) c.close_of.ensures
    c.message_of.ensures.text c.message_of.ensures.says refl (closing-length c.args.number c.ranges.number.fits)
