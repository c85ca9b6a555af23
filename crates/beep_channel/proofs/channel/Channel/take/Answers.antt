-- The part leaves the inbox, and its marks are taken more.
use Rattle.std.proofs.Common.{◌≡◌, ◌∙◌, sym, ap, subst, List}
use Rattle.beep_inbox.specs.Runs.{Run}
use Rattle.beep_inbox.specs.Laws.{part_marks}
use Rattle.beep_inbox.specs.Untaken.{Untaken}
use Rattle.beep_seq.specs.Receiving.{Receiver}
use Rattle.beep_channel.specs.Held.{Held, Live}
use Rattle.beep_channel.specs.Stands.{TakesPart}
use Rattle.beep_channel.proofs.TakeLemmas.{Reached, take-goal, taken-within, taken-may}
use Rattle.beep_channel.proofs.CallLemmas.{reached-taken}
use Rattle.beep_channel.proofs.channel.Channel.take.Goals as goal

pub invariant_of-self : goal.invariant_of-self
invariant_of-self c =
    let old : Held = record { number = c.self.inside.number; life = c.self.inside.exchange; queue = c.self.inside.outbox.messages; seqno = c.self.inside.seqno; sends = c.self.inside.sends; receives = c.self.inside.receives; inbox = c.self.inside.inbox.runs } in
    let is : old ≡ c.args.self.now.held = ap (λ (v : Live). v.held) c.self.view_is in (
      c.self.invariant.0,
      c.take.ensures.window ∙ c.self.invariant.1,
      subst (λ (i : List Run). Reached (record old { inbox = i })) (sym (ap (λ (u : Untaken). u.runs) c.in_default.ensures.kept)) c.self.invariant.2,
    )

pub taken-requires : goal.taken-requires
taken-requires c =
    let old : Held = record { number = c.self.inside.number; life = c.self.inside.exchange; queue = c.self.inside.outbox.messages; seqno = c.self.inside.seqno; sends = c.self.inside.sends; receives = c.self.inside.receives; inbox = c.self.inside.inbox.runs } in
    let is : old ≡ c.args.self.now.held = ap (λ (v : Live). v.held) c.self.view_is in
    record { waits = taken-within old c.self.invariant.2 c.in-Some.part c.take.new.self.runs c.args.buf.now c.take.new.buf c.in-Some.ensures.some }

pub note_end-requires : goal.note_end-requires
note_end-requires c = λ ended.
    let old : Held = record { number = c.self.inside.number; life = c.self.inside.exchange; queue = c.self.inside.outbox.messages; seqno = c.self.inside.seqno; sends = c.self.inside.sends; receives = c.self.inside.receives; inbox = c.self.inside.inbox.runs } in
    let is : old ≡ c.args.self.now.held = ap (λ (v : Live). v.held) c.self.view_is in
    taken-may old c.self.invariant.2 c.in-Some.part c.take.new.self.runs c.args.buf.now c.take.new.buf c.in-Some.ensures.some ended

pub invariant_of-self-2 : goal.invariant_of-self-2
invariant_of-self-2 c =
    let old : Held = record { number = c.self.inside.number; life = c.self.inside.exchange; queue = c.self.inside.outbox.messages; seqno = c.self.inside.seqno; sends = c.self.inside.sends; receives = c.self.inside.receives; inbox = c.self.inside.inbox.runs } in
    let is : old ≡ c.args.self.now.held = ap (λ (v : Live). v.held) c.self.view_is in (
      c.self.invariant.0,
      c.take.ensures.window ∙ c.self.invariant.1 ∙ ap (λ (r : Receiver). r.size) (sym c.taken.ensures.value),
      reached-taken old (record old { life = c.note_end.new.exchange; receives = c.taken.new.self; inbox = c.take.new.self.runs }) c.self.invariant.2 (part_marks c.in-Some.part c.take.new.buf)
          (take-goal old c.in-Some.part c.take.new.self.runs c.args.buf.now c.take.new.buf c.in-Some.ensures.some c.note_end.new.exchange c.note_end.ensures.given c.note_end.ensures.received c.note_end.ensures.sent
          c.taken.new.self c.taken.ensures.value).stands,
    )

pub returns-clause-some : goal.returns-clause-some
returns-clause-some c =
    let old : Held = record { number = c.self.inside.number; life = c.self.inside.exchange; queue = c.self.inside.outbox.messages; seqno = c.self.inside.seqno; sends = c.self.inside.sends; receives = c.self.inside.receives; inbox = c.self.inside.inbox.runs } in
    let is : old ≡ c.args.self.now.held = ap (λ (v : Live). v.held) c.self.view_is in
    subst (λ (h : Held). TakesPart c.in-Some.part h (record old { life = c.note_end.new.exchange; receives = c.taken.new.self; inbox = c.take.new.self.runs }) c.args.buf.now c.take.new.buf) is
    (take-goal old c.in-Some.part c.take.new.self.runs c.args.buf.now c.take.new.buf c.in-Some.ensures.some c.note_end.new.exchange c.note_end.ensures.given c.note_end.ensures.received c.note_end.ensures.sent
    c.taken.new.self c.taken.ensures.value)
