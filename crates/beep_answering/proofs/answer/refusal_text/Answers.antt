-- The message of a refusal is short enough to be read.
use Rattle.std.proofs.Common.{List, ℕ, refl, ap, ◌∙◌}
use Rattle.beep_management.specs.beep_mgmt.specs.Form.{fault}
use Rattle.beep_answering.specs.Sent.{refusal_of}
use Rattle.beep_answering.proofs.LengthLemmas.{refusal-length}
use Rattle.beep_answering.proofs.MessageLemmas.{is-message-of}
use Rattle.beep_answering.proofs.answer.refusal_text.Goals as goal

pub returns : goal.returns
returns c =
    is-message-of (λ o. o.octets) c.message_of.result _ (refusal_of c.args.code) (ap (λ (note : List ℕ). fault c.args.code note) (c.in_ok-note.ensures ∙ c.note_of.ensures.value))
    c.message_of.ensures.text c.message_of.ensures.says refl (refusal-length c.args.code)
