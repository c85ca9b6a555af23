-- The header joins each history for which the channel stood.
use Rattle.std.proofs.Common.{◌≡◌, ap, sym, subst, None}
use Rattle.beep_history.specs.declared.journal.Side.{Side}
use Rattle.beep_history.specs.Journal.{began}
use Rattle.beep_channel.specs.Held.{Held, Live}
use Rattle.beep_channel.specs.Held.{held_judged}
use Rattle.beep_channel.specs.Stands.{StandsWith}
use Rattle.beep_channel.proofs.CallLemmas.{begin-goal, reached-with}
use Rattle.beep_channel.proofs.channel.Channel.begin.Goals as goal

pub invariant_of-self : goal.invariant_of-self
invariant_of-self c =
    let old : Held = record { number = c.self.inside.number; life = c.self.inside.exchange; queue = c.self.inside.outbox.messages; seqno = c.self.inside.seqno; sends = c.self.inside.sends; receives = c.self.inside.receives; inbox = c.self.inside.inbox.runs } in
    let is : old ≡ c.args.self.now.held = ap (λ (v : Live). v.held) c.self.view_is in (
      c.self.invariant.0,
      c.self.invariant.1,
      reached-with old (record old { life = c.note_in.new.self }) c.self.invariant.2 (began Side.Received c.args.head.now)
          (begin-goal old c.args.head.now
          (subst (λ (h : Held). h.life.received.under_way ≡ None) (sym is) c.requires.whole)
          (subst (λ (h : Held). held_judged h c.args.head.now ≡ None) (sym is) c.requires.judged)
          (subst (λ (h : Held). c.args.head.now.channel ≡ h.number) (sym is) c.requires.channel)
          c.note_in.new.self c.note_in.ensures.stands c.note_in.ensures.sent c.note_in.ensures.given),
    )

pub returns-clause-stands : goal.returns-clause-stands
returns-clause-stands c =
    let old : Held = record { number = c.self.inside.number; life = c.self.inside.exchange; queue = c.self.inside.outbox.messages; seqno = c.self.inside.seqno; sends = c.self.inside.sends; receives = c.self.inside.receives; inbox = c.self.inside.inbox.runs } in
    let is : old ≡ c.args.self.now.held = ap (λ (v : Live). v.held) c.self.view_is in
    subst (λ (h : Held). StandsWith h (record old { life = c.note_in.new.self }) (began Side.Received c.args.head.now)) is
    (begin-goal old c.args.head.now
    (subst (λ (h : Held). h.life.received.under_way ≡ None) (sym is) c.requires.whole)
    (subst (λ (h : Held). held_judged h c.args.head.now ≡ None) (sym is) c.requires.judged)
    (subst (λ (h : Held). c.args.head.now.channel ≡ h.number) (sym is) c.requires.channel)
    c.note_in.new.self c.note_in.ensures.stands c.note_in.ensures.sent c.note_in.ensures.given)
