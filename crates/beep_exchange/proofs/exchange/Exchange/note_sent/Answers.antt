-- The frame joins the history: of a reply, the side that asked keeps what it says.
use Rattle.std.proofs.Common.{◌∙◌, sym, refl}
use Rattle.beep_exchange.proofs.ExchangeLemmas.{note-sent}
use Rattle.beep_exchange.proofs.exchange.Exchange.note_sent.Goals as goal

pub returns-then-is_reply-clause-stands : goal.returns-then-is_reply-clause-stands
returns-then-is_reply-clause-stands c = λ past head payload s begun size.
    note-sent c.self.inside.received c.self.inside.sent c.self.inside.given c.args.self.now c.self.view_is past s _ _ c.in-Some.head head payload
    c.pass.ensures.passed (rw (sym c.is_reply.ensures ∙ c.if-is_reply.true) c.reply.ensures) (sym c.pass.ensures.value ∙ c.in-Some.is) begun size

pub returns-else-is_reply-clause-stands : goal.returns-else-is_reply-clause-stands
returns-else-is_reply-clause-stands c = λ past head payload s begun size.
    note-sent c.self.inside.received c.self.inside.sent c.self.inside.given c.args.self.now c.self.view_is past s _ _ c.in-Some.head head payload
    c.pass.ensures.passed (rw (sym c.is_reply.ensures ∙ c.if-is_reply.false) refl) (sym c.pass.ensures.value ∙ c.in-Some.is) begun size
