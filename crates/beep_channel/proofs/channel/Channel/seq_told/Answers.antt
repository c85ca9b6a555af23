-- A SEQ leaves the channel standing for the history with it.
use Rattle.std.proofs.Common.{◌≡◌, ap, sym, subst, ◌∙◌}
use Rattle.beep_seq.specs.Receiving.{Receiver}
use Rattle.beep_channel.specs.Held.{Held, Live}
use Rattle.beep_channel.specs.Held.{told_held, full_seq_of}
use Rattle.beep_channel.specs.Stands.{Stands, IsTold}
use Rattle.beep_channel.proofs.TakeLemmas.{Reached}
use Rattle.beep_channel.proofs.CallLemmas.{told-reached, told-is}
use Rattle.beep_channel.proofs.channel.Channel.seq_told.Goals as goal

pub invariant_of-self : goal.invariant_of-self
invariant_of-self c =
    let old : Held = record { number = c.self.inside.number; life = c.self.inside.exchange; queue = c.self.inside.outbox.messages; seqno = c.self.inside.seqno; sends = c.self.inside.sends; receives = c.self.inside.receives; inbox = c.self.inside.inbox.runs } in
    let is : old ≡ c.args.self.now.held = ap (λ (v : Live). v.held) c.self.view_is in (
      c.self.invariant.0,
      c.self.invariant.1 ∙ ap (λ (r : Receiver). r.size) (sym c.told.ensures.value),
      subst (λ (r : Receiver). Reached (record old { receives = r })) (sym c.told.ensures.value) (told-reached old c.self.invariant.2),
    )

pub returns-clause-stands : goal.returns-clause-stands
returns-clause-stands c = λ size past given taken s.
    let old : Held = record { number = c.self.inside.number; life = c.self.inside.exchange; queue = c.self.inside.outbox.messages; seqno = c.self.inside.seqno; sends = c.self.inside.sends; receives = c.self.inside.receives; inbox = c.self.inside.inbox.runs } in
    let is : old ≡ c.args.self.now.held = ap (λ (v : Live). v.held) c.self.view_is in
    subst (λ (r : Receiver). IsTold size c.args.self.now.held (record old { receives = r }) past given taken (full_seq_of c.args.self.now.held)) (sym c.told.ensures.value)
    (subst (λ (h : Held). IsTold size h (told_held old) past given taken (full_seq_of h)) is
    (told-is size old past given taken (subst (λ (h : Held). Stands size h past given taken) (sym is) s)))
