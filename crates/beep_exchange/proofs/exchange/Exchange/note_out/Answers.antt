-- A request that begins has room, and the header joins the history.
use Rattle.std.proofs.Common.{◌≡◌, None, sym, subst}
use Rattle.beep_exchange.specs.Kept.{judged}
use Rattle.beep_exchange.specs.Exchange.{Life}
use Rattle.beep_exchange.proofs.ExchangeLemmas.{judged-room, note-out}
use Rattle.beep_exchange.proofs.exchange.Exchange.note_out.Goals as goal

pub begin-requires : goal.begin-requires
begin-requires c = λ new.
    judged-room c.self.inside.sent c.self.inside.received c.args.head.now
    (subst (λ (life : Life). judged life.sent life.received c.args.head.now ≡ None) (sym c.self.view_is) c.requires.judged) new

pub returns-clause-stands : goal.returns-clause-stands
returns-clause-stands c = λ past s.
    note-out c.self.inside.received c.self.inside.sent c.self.inside.given c.args.self.now c.self.view_is past s _ c.args.head.now
    c.begin.ensures c.requires.whole c.requires.judged
