-- The frame joins each history for which the channel stood.
use Rattle.std.proofs.Common.{◌≡◌, ◌∙◌, sym, ap, subst, arith, List, Some, length, not}
use Rattle.beep_frame.specs.declared.head.Head.{Head}
use Rattle.beep_frame.specs.declared.tag.Tag.{Tag}
use Rattle.beep_history.specs.declared.journal.Side.{Side}
use Rattle.beep_history.specs.Journal.{passed}
use Rattle.beep_inbox.specs.Runs.{Run, put_run}
use Rattle.beep_seq.specs.Receiving.{Receiver}
use Rattle.beep_channel.specs.Held.{Held, Live, arrived_run}
use Rattle.beep_channel.specs.Stands.{StandsWith}
use Rattle.beep_channel.proofs.TakeLemmas.{Reached}
use Rattle.beep_channel.proofs.CallLemmas.{arrive-goal, arrive-room, bounded, the-tag, some-same, reached-with}
use Rattle.beep_channel.proofs.channel.Channel.arrive.Goals as goal

pub put-requires : goal.put-requires
put-requires c =
    let old : Held = record { number = c.self.inside.number; life = c.self.inside.exchange; queue = c.self.inside.outbox.messages; seqno = c.self.inside.seqno; sends = c.self.inside.sends; receives = c.self.inside.receives; inbox = c.self.inside.inbox.runs } in
    let is : old ≡ c.args.self.now.held = ap (λ (v : Live). v.held) c.self.view_is in
    let begun : old.life.received.under_way ≡ Some c.in-Some.head = sym c.receiving.ensures ∙ c.in-Some.is in
    let sized : (head : Head) → old.life.received.under_way ≡ Some head → length c.args.payload.now ≡ head.size = subst (λ (h : Held). (head : Head) → h.life.received.under_way ≡ Some head → length c.args.payload.now ≡ head.size) (sym is) c.requires.sized in
    let b = bounded old c.self.invariant.2 c.in-Some.head begun in
    let s = sized c.in-Some.head begun in
    let w = c.self.invariant.1 in
    record { fits = omega (arith, b, s, w) }

pub invariant_of-self : goal.invariant_of-self
invariant_of-self c =
    let old : Held = record { number = c.self.inside.number; life = c.self.inside.exchange; queue = c.self.inside.outbox.messages; seqno = c.self.inside.seqno; sends = c.self.inside.sends; receives = c.self.inside.receives; inbox = c.self.inside.inbox.runs } in
    let is : old ≡ c.args.self.now.held = ap (λ (v : Live). v.held) c.self.view_is in (
      c.self.invariant.0,
      c.in_err-put.ensures.window ∙ c.self.invariant.1,
      subst (λ (i : List Run). Reached (record old { inbox = i })) (sym c.in_err-put.ensures.err) c.self.invariant.2,
    )

pub arrived-requires : goal.arrived-requires
arrived-requires c =
    let old : Held = record { number = c.self.inside.number; life = c.self.inside.exchange; queue = c.self.inside.outbox.messages; seqno = c.self.inside.seqno; sends = c.self.inside.sends; receives = c.self.inside.receives; inbox = c.self.inside.inbox.runs } in
    let is : old ≡ c.args.self.now.held = ap (λ (v : Live). v.held) c.self.view_is in
    record { fits = arrive-room old c.self.invariant.2 c.in-Some.head (sym c.receiving.ensures ∙ c.in-Some.is) }

pub invariant_of-self-2 : goal.invariant_of-self-2
invariant_of-self-2 c =
    let old : Held = record { number = c.self.inside.number; life = c.self.inside.exchange; queue = c.self.inside.outbox.messages; seqno = c.self.inside.seqno; sends = c.self.inside.sends; receives = c.self.inside.receives; inbox = c.self.inside.inbox.runs } in
    let is : old ≡ c.args.self.now.held = ap (λ (v : Live). v.held) c.self.view_is in
    let begun : old.life.received.under_way ≡ Some c.in-Some.head = sym c.receiving.ensures ∙ c.in-Some.is in
    let sized : (head : Head) → old.life.received.under_way ≡ Some head → length c.args.payload.now ≡ head.size = subst (λ (h : Held). (head : Head) → h.life.received.under_way ≡ Some head → length c.args.payload.now ≡ head.size) (sym is) c.requires.sized in (
      c.self.invariant.0,
      c.in_ok-put.ensures.window ∙ c.self.invariant.1 ∙ ap (λ (r : Receiver). r.size) (sym c.arrived.ensures.value),
      reached-with old (record old { life = c.note_whole.new.self; receives = c.arrived.new.self; inbox = c.put.new.self.runs }) c.self.invariant.2 (passed Side.Received c.in-Some.head c.args.payload.now)
          (arrive-goal old c.in-Some.head c.args.payload.now begun (sized c.in-Some.head begun) c.note_whole.new.self c.note_whole.ensures.stands c.note_whole.ensures.given c.arrived.new.self c.arrived.ensures.value
          c.put.new.self.runs (c.in_ok-put.ensures.ok ∙ ap (λ (t : Tag). put_run c.self.inside.inbox.runs (record { tag = t; octets = c.args.payload.now; ended = not c.in-Some.head.more }))
          (the-tag old c.in-Some.head begun c.in-Some-tag_in.tag (sym c.tag_in.ensures.value ∙ c.in-Some-tag_in.is)))),
    )

pub returns-clause-stands : goal.returns-clause-stands
returns-clause-stands c = λ head under.
    let old : Held = record { number = c.self.inside.number; life = c.self.inside.exchange; queue = c.self.inside.outbox.messages; seqno = c.self.inside.seqno; sends = c.self.inside.sends; receives = c.self.inside.receives; inbox = c.self.inside.inbox.runs } in
    let is : old ≡ c.args.self.now.held = ap (λ (v : Live). v.held) c.self.view_is in
    let begun : old.life.received.under_way ≡ Some c.in-Some.head = sym c.receiving.ensures ∙ c.in-Some.is in
    let sized : (head : Head) → old.life.received.under_way ≡ Some head → length c.args.payload.now ≡ head.size = subst (λ (h : Held). (head : Head) → h.life.received.under_way ≡ Some head → length c.args.payload.now ≡ head.size) (sym is) c.requires.sized in
    let same : c.in-Some.head ≡ head = some-same c.in-Some.head head (sym begun ∙ subst (λ (h : Held). h.life.received.under_way ≡ Some head) (sym is) under) in
    subst (λ (x : Head). StandsWith c.args.self.now.held (record old { life = c.note_whole.new.self; receives = c.arrived.new.self; inbox = c.put.new.self.runs }) (passed Side.Received x c.args.payload.now)) same
    (subst (λ (h : Held). StandsWith h (record old { life = c.note_whole.new.self; receives = c.arrived.new.self; inbox = c.put.new.self.runs }) (passed Side.Received c.in-Some.head c.args.payload.now)) is
    (arrive-goal old c.in-Some.head c.args.payload.now begun (sized c.in-Some.head begun) c.note_whole.new.self c.note_whole.ensures.stands c.note_whole.ensures.given c.arrived.new.self c.arrived.ensures.value
    c.put.new.self.runs (c.in_ok-put.ensures.ok ∙ ap (λ (t : Tag). put_run c.self.inside.inbox.runs (record { tag = t; octets = c.args.payload.now; ended = not c.in-Some.head.more }))
    (the-tag old c.in-Some.head begun c.in-Some-tag_in.tag (sym c.tag_in.ensures.value ∙ c.in-Some-tag_in.is)))))

pub returns-clause-put : goal.returns-clause-put
returns-clause-put c = λ head under.
    let old : Held = record { number = c.self.inside.number; life = c.self.inside.exchange; queue = c.self.inside.outbox.messages; seqno = c.self.inside.seqno; sends = c.self.inside.sends; receives = c.self.inside.receives; inbox = c.self.inside.inbox.runs } in
    let is : old ≡ c.args.self.now.held = ap (λ (v : Live). v.held) c.self.view_is in
    let begun : old.life.received.under_way ≡ Some c.in-Some.head = sym c.receiving.ensures ∙ c.in-Some.is in
    let same : c.in-Some.head ≡ head = some-same c.in-Some.head head (sym begun ∙ subst (λ (h : Held). h.life.received.under_way ≡ Some head) (sym is) under) in
    subst (λ (x : Head). c.put.new.self.runs ≡ put_run c.args.self.now.held.inbox (arrived_run c.args.self.now.held x c.args.payload.now)) same
    (subst (λ (h : Held). c.put.new.self.runs ≡ put_run h.inbox (arrived_run h c.in-Some.head c.args.payload.now)) is
    (c.in_ok-put.ensures.ok ∙ ap (λ (t : Tag). put_run c.self.inside.inbox.runs (record { tag = t; octets = c.args.payload.now; ended = not c.in-Some.head.more }))
    (the-tag old c.in-Some.head begun c.in-Some-tag_in.tag (sym c.tag_in.ensures.value ∙ c.in-Some-tag_in.is))))
