-- The message joins what was given, in each history for which the channel stood.
use Rattle.std.proofs.Common.{◌≡◌, ℕ, ◌∙◌, sym, ap, subst, arith, length, List, ◌++◌, ◌∷◌, [], refl}
use Rattle.std.proofs.lemmas.Bool.Decides.{nat_tests}
use Rattle.beep_frame.specs.declared.kind.Kind.{Kind}
use Rattle.beep_outbox.specs.Queue.{Message, message_marks}
use Rattle.beep_channel.specs.Held.{Held, Live}
use Rattle.beep_channel.specs.Held.{next_ask}
use Rattle.beep_channel.specs.Stands.{StandsGiven}
use Rattle.beep_channel.proofs.TakeLemmas.{Reached}
use Rattle.beep_channel.proofs.CallLemmas.{ask-goal, refusal-is, reached-given}
use Rattle.beep_channel.proofs.channel.Channel.give_ask.Goals as goal

pub invariant_of-self : goal.invariant_of-self
invariant_of-self c =
    let old : Held = record { number = c.self.inside.number; life = c.self.inside.exchange; queue = c.self.inside.outbox.messages; seqno = c.self.inside.seqno; sends = c.self.inside.sends; receives = c.self.inside.receives; inbox = c.self.inside.inbox.runs } in
    let is : old ≡ c.args.self.now.held = ap (λ (v : Live). v.held) c.self.view_is in (
      c.give.ensures.limit ∙ c.self.invariant.0,
      c.self.invariant.1,
      subst (λ (q : List Message). Reached (record old { queue = q })) (sym c.in-Err.ensures.err) c.self.invariant.2,
    )

pub invariant_of-self-2 : goal.invariant_of-self-2
invariant_of-self-2 c =
    let old : Held = record { number = c.self.inside.number; life = c.self.inside.exchange; queue = c.self.inside.outbox.messages; seqno = c.self.inside.seqno; sends = c.self.inside.sends; receives = c.self.inside.receives; inbox = c.self.inside.inbox.runs } in
    let is : old ≡ c.args.self.now.held = ap (λ (v : Live). v.held) c.self.view_is in (
      c.give.ensures.limit ∙ c.self.invariant.0,
      c.self.invariant.1,
      reached-given old (record old { life = c.note_given.new.self; queue = c.give.new.self.messages }) c.self.invariant.2 (message_marks (next_ask old c.args.octets.now))
          (ask-goal old c.args.octets.now (let e = c.asked.ensures.value in let f = c.if-asked-ge-MAX_REQUESTS.false in grind (arith, nat_tests, e, f))
          (sym (refusal-is c.self.inside.outbox old refl c.self.invariant.0 (length c.args.octets.now)) ∙ c.in-Ok.ensures.accepted)
          c.note_given.new.self c.note_given.ensures.value c.note_given.ensures.received c.note_given.ensures.sent
          c.give.new.self.messages (c.in-Ok.ensures.ok ∙ ap (λ (n : ℕ). old.queue ++ record { tag = record { kind = Kind.Msg; request = n; ansno = 0 }; octets = c.args.octets.now } ∷ []) c.next_asked-request.ensures)),
    )

pub returns-clause-ok : goal.returns-clause-ok
returns-clause-ok c =
    let old : Held = record { number = c.self.inside.number; life = c.self.inside.exchange; queue = c.self.inside.outbox.messages; seqno = c.self.inside.seqno; sends = c.self.inside.sends; receives = c.self.inside.receives; inbox = c.self.inside.inbox.runs } in
    let is : old ≡ c.args.self.now.held = ap (λ (v : Live). v.held) c.self.view_is in
    subst (λ (h : Held). StandsGiven h (record old { life = c.note_given.new.self; queue = c.give.new.self.messages }) (message_marks (next_ask h c.args.octets.now))) is
    (ask-goal old c.args.octets.now (let e = c.asked.ensures.value in let f = c.if-asked-ge-MAX_REQUESTS.false in grind (arith, nat_tests, e, f))
    (sym (refusal-is c.self.inside.outbox old refl c.self.invariant.0 (length c.args.octets.now)) ∙ c.in-Ok.ensures.accepted)
    c.note_given.new.self c.note_given.ensures.value c.note_given.ensures.received c.note_given.ensures.sent
    c.give.new.self.messages (c.in-Ok.ensures.ok ∙ ap (λ (n : ℕ). old.queue ++ record { tag = record { kind = Kind.Msg; request = n; ansno = 0 }; octets = c.args.octets.now } ∷ []) c.next_asked-request.ensures))
