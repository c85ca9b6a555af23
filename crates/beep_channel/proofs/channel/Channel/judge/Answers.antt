-- What is judged by what is held is the first rule that is broken over the history.
use Rattle.std.proofs.Common.{◌≡◌, ap, sym, subst, ◌∙◌, Option}
use Rattle.beep_frame.specs.declared.rule.Rule.{Rule}
use Rattle.beep_history.specs.Broken.{with_octets}
use Rattle.beep_exchange.specs.Kept.{judged}
use Rattle.beep_channel.specs.Held.{Held, Live}
use Rattle.beep_channel.specs.Held.{octets_judged}
use Rattle.beep_channel.specs.Stands.{Stands}
use Rattle.beep_channel.proofs.JudgeLemmas.{judge-held}
use Rattle.beep_channel.proofs.channel.Channel.judge.Goals as goal

pub returns-clause-stands : goal.returns-clause-stands
returns-clause-stands c = λ size past given taken s.
    let old : Held = record { number = c.self.inside.number; life = c.self.inside.exchange; queue = c.self.inside.outbox.messages; seqno = c.self.inside.seqno; sends = c.self.inside.sends; receives = c.self.inside.receives; inbox = c.self.inside.inbox.runs } in
    let is : old ≡ c.args.self.now.held = ap (λ (v : Live). v.held) c.self.view_is in
    c.with_octets.ensures
    ∙ ap (λ (o : Option Rule). with_octets o c.judge_octets.result) c.judge_in.ensures.value
    ∙ ap (λ (o : Option Rule). with_octets (judged old.life.received old.life.sent c.args.head.now) o) (c.judge_octets.ensures ∙ ap (λ (h : Held). octets_judged h c.args.head.now) (sym is))
    ∙ judge-held old c.args.head.now size past (subst (λ (h : Held). Stands size h past given taken) (sym is) s).held
