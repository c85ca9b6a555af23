-- The SEQ joins each history for which the channel stood.
use Rattle.std.proofs.Common.{◌≡◌, ap, sym, subst, OnOk}
use Rattle.beep_history.specs.declared.journal.Side.{Side}
use Rattle.beep_history.specs.Journal.{told}
use Rattle.beep_channel.specs.Held.{Held, Live}
use Rattle.beep_channel.specs.Stands.{Stands, StandsWith}
use Rattle.beep_channel.proofs.CallLemmas.{acked-ok, acked-reached, acked-refused}
use Rattle.beep_channel.proofs.channel.Channel.acked.Goals as goal

pub invariant_of-self : goal.invariant_of-self
invariant_of-self c =
    let old : Held = record { number = c.self.inside.number; life = c.self.inside.exchange; queue = c.self.inside.outbox.messages; seqno = c.self.inside.seqno; sends = c.self.inside.sends; receives = c.self.inside.receives; inbox = c.self.inside.inbox.runs } in
    let is : old ≡ c.args.self.now.held = ap (λ (v : Live). v.held) c.self.view_is in (
      c.self.invariant.0,
      c.self.invariant.1,
      acked-reached old c.args.seq.now c.acked.new.self c.acked.result c.self.invariant.2
          (acked-ok old c.args.seq.now c.acked.new.self c.acked.result c.acked.ensures.ok) c.acked.ensures.err,
    )

pub returns-clause-ok : goal.returns-clause-ok
returns-clause-ok c =
    let old : Held = record { number = c.self.inside.number; life = c.self.inside.exchange; queue = c.self.inside.outbox.messages; seqno = c.self.inside.seqno; sends = c.self.inside.sends; receives = c.self.inside.receives; inbox = c.self.inside.inbox.runs } in
    let is : old ≡ c.args.self.now.held = ap (λ (v : Live). v.held) c.self.view_is in
    subst (λ (h : Held). OnOk c.acked.result (StandsWith h (record old { sends = c.acked.new.self }) (told Side.Received c.args.seq.now))) is
    (acked-ok old c.args.seq.now c.acked.new.self c.acked.result c.acked.ensures.ok)

pub returns-clause-refused : goal.returns-clause-refused
returns-clause-refused c =
    let old : Held = record { number = c.self.inside.number; life = c.self.inside.exchange; queue = c.self.inside.outbox.messages; seqno = c.self.inside.seqno; sends = c.self.inside.sends; receives = c.self.inside.receives; inbox = c.self.inside.inbox.runs } in
    let is : old ≡ c.args.self.now.held = ap (λ (v : Live). v.held) c.self.view_is in
    λ size past given taken s. acked-refused old c.args.seq.now _ c.acked.ensures.refused size past given taken (subst (λ (h : Held). Stands size h past given taken) (sym is) s)
