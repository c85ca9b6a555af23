-- The frame is lawful over each history for which the channel stood, and what is left stands for it with the frame.
use Rattle.std.proofs.Common.{◌≡◌, ◌∙◌, sym, ap, subst, true, take}
use Rattle.beep_frame.specs.declared.head.Head.{Head}
use Rattle.beep_exchange.specs.Kept.{judged}
use Rattle.beep_outbox.specs.Queue.{first_octets}
use Rattle.beep_channel.specs.Held.{Held, Live}
use Rattle.beep_channel.specs.Held.{is_held_ready, next_head}
use Rattle.beep_channel.specs.Stands.{Stands, IsNext}
use Rattle.beep_channel.proofs.CallLemmas.{some-judged, some-idle, cut-goal, cut-reached, left-is, next-few}
use Rattle.beep_channel.proofs.channel.Channel.cut.Goals as goal

pub note_out-requires-clause-judged : goal.note_out-requires-clause-judged
note_out-requires-clause-judged c =
    let old : Held = record { number = c.self.inside.number; life = c.self.inside.exchange; queue = c.self.inside.outbox.messages; seqno = c.self.inside.seqno; sends = c.self.inside.sends; receives = c.self.inside.receives; inbox = c.self.inside.inbox.runs } in
    let is : old ≡ c.args.self.now.held = ap (λ (v : Live). v.held) c.self.view_is in
    ap (λ (h : Head). judged c.self.inside.exchange.sent c.self.inside.exchange.received h) (c.next_head-head.ensures ∙ ap (λ (h : Held). next_head c.args.max h) (sym is))
    ∙ some-judged old c.self.invariant.2 c.args.max c.requires.most (subst (λ (h : Held). is_held_ready h ≡ true) (sym is) c.requires.ready)

pub note_out-requires-clause-whole : goal.note_out-requires-clause-whole
note_out-requires-clause-whole c =
    let old : Held = record { number = c.self.inside.number; life = c.self.inside.exchange; queue = c.self.inside.outbox.messages; seqno = c.self.inside.seqno; sends = c.self.inside.sends; receives = c.self.inside.receives; inbox = c.self.inside.inbox.runs } in
    let is : old ≡ c.args.self.now.held = ap (λ (v : Live). v.held) c.self.view_is in
    some-idle old c.self.invariant.2

pub invariant_of-self : goal.invariant_of-self
invariant_of-self c =
    let old : Held = record { number = c.self.inside.number; life = c.self.inside.exchange; queue = c.self.inside.outbox.messages; seqno = c.self.inside.seqno; sends = c.self.inside.sends; receives = c.self.inside.receives; inbox = c.self.inside.inbox.runs } in
    let is : old ≡ c.args.self.now.held = ap (λ (v : Live). v.held) c.self.view_is in (
      c.cut.ensures.limit ∙ c.self.invariant.0,
      c.self.invariant.1,
      cut-reached old c.args.max c.requires.most
          (subst (λ (h : Held). is_held_ready h ≡ true) (sym is) c.requires.ready)
          c.next_head-head.result (c.next_head-head.ensures ∙ ap (λ (h : Held). next_head c.args.max h) (sym is))
          c.note_out.new.self c.note_sent.new.self c.note_out.ensures.stands c.note_out.ensures.begun c.note_out.ensures.given
          c.note_sent.ensures.stands c.note_sent.ensures.given
          c.cut.new.self.messages (left-is c.next_head-head.result.size old.queue c.cut.result.1 c.cut.new.self.messages
          (next-few old c.args.max c.next_head-head.result (c.next_head-head.ensures ∙ ap (λ (h : Held). next_head c.args.max h) (sym is))) _ _ c.cut.ensures.value)
          c.plus-self-inside.result c.plus-self-inside.ensures c.spend.new.self c.spend.ensures.counted c.self.invariant.2,
    )

pub returns-clause-next : goal.returns-clause-next
returns-clause-next c = λ size past given taken s.
    let old : Held = record { number = c.self.inside.number; life = c.self.inside.exchange; queue = c.self.inside.outbox.messages; seqno = c.self.inside.seqno; sends = c.self.inside.sends; receives = c.self.inside.receives; inbox = c.self.inside.inbox.runs } in
    let is : old ≡ c.args.self.now.held = ap (λ (v : Live). v.held) c.self.view_is in
    subst (λ (h : Held). IsNext size c.args.max h (record old { life = c.note_sent.new.self; queue = c.cut.new.self.messages; seqno = c.plus-self-inside.result; sends = c.spend.new.self }) past given taken
    c.next_head-head.result (take c.next_head-head.result.size (first_octets h.queue))) is
    (cut-goal old c.args.max c.requires.most
    (subst (λ (h : Held). is_held_ready h ≡ true) (sym is) c.requires.ready)
    c.next_head-head.result (c.next_head-head.ensures ∙ ap (λ (h : Held). next_head c.args.max h) (sym is))
    c.note_out.new.self c.note_sent.new.self c.note_out.ensures.stands c.note_out.ensures.begun c.note_out.ensures.given
    c.note_sent.ensures.stands c.note_sent.ensures.given
    c.cut.new.self.messages (left-is c.next_head-head.result.size old.queue c.cut.result.1 c.cut.new.self.messages
    (next-few old c.args.max c.next_head-head.result (c.next_head-head.ensures ∙ ap (λ (h : Held). next_head c.args.max h) (sym is))) _ _ c.cut.ensures.value)
    c.plus-self-inside.result c.plus-self-inside.ensures c.spend.new.self c.spend.ensures.counted size past given taken (subst (λ (h : Held). Stands size h past given taken) (sym is) s))
