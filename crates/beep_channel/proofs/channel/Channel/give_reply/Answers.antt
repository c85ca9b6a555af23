-- The message joins what was given, in each history for which the channel stood.
use Rattle.std.proofs.Common.{◌≡◌, ℕ, ◌∙◌, sym, ap, subst, length, List, ◌++◌, ◌∷◌, [], refl}
use Rattle.beep_outbox.specs.Queue.{Message, message_marks}
use Rattle.beep_channel.specs.Held.{Held, Live}
use Rattle.beep_channel.specs.Held.{next_reply, IsReply, ansno_of}
use Rattle.beep_channel.specs.Stands.{StandsGiven}
use Rattle.beep_channel.proofs.TakeLemmas.{Reached}
use Rattle.beep_channel.proofs.CallLemmas.{reply-goal, refusal-is, owed-place, reached-given}
use Rattle.beep_channel.proofs.channel.Channel.give_reply.Goals as goal

pub invariant_of-self : goal.invariant_of-self
invariant_of-self c =
    let old : Held = record { number = c.self.inside.number; life = c.self.inside.exchange; queue = c.self.inside.outbox.messages; seqno = c.self.inside.seqno; sends = c.self.inside.sends; receives = c.self.inside.receives; inbox = c.self.inside.inbox.runs } in
    let is : old ≡ c.args.self.now.held = ap (λ (v : Live). v.held) c.self.view_is in (
      c.give.ensures.limit ∙ c.self.invariant.0,
      c.self.invariant.1,
      subst (λ (q : List Message). Reached (record old { queue = q })) (sym c.in_err-give.ensures.err) c.self.invariant.2,
    )

pub invariant_of-self-2 : goal.invariant_of-self-2
invariant_of-self-2 c =
    let old : Held = record { number = c.self.inside.number; life = c.self.inside.exchange; queue = c.self.inside.outbox.messages; seqno = c.self.inside.seqno; sends = c.self.inside.sends; receives = c.self.inside.receives; inbox = c.self.inside.inbox.runs } in
    let is : old ≡ c.args.self.now.held = ap (λ (v : Live). v.held) c.self.view_is in (
      c.give.ensures.limit ∙ c.self.invariant.0,
      c.self.invariant.1,
      reached-given old (record old { life = c.note_given.new.self; queue = c.give.new.self.messages }) c.self.invariant.2 (message_marks (next_reply old c.args.kind c.args.octets.now))
          (reply-goal old c.args.kind c.args.octets.now (subst (λ (h : Held). IsReply h c.args.kind c.args.octets.now) (sym is) c.requires.may)
          (sym (refusal-is c.self.inside.outbox old refl c.self.invariant.0 (length c.args.octets.now)) ∙ c.in_ok-give.ensures.accepted)
          c.note_given.new.self c.note_given.ensures.value c.note_given.ensures.received c.note_given.ensures.sent
          c.give.new.self.messages (c.in_ok-give.ensures.ok ∙ ap (λ (n : ℕ). old.queue ++ record { tag = record { kind = c.args.kind; request = n; ansno = c.next_ansno.result }; octets = c.args.octets.now } ∷ []) (owed-place old.life.given c.in-Some.request (sym c.first_owed.ensures.value ∙ c.in-Some.is))
          ∙ ap (λ (n : ℕ). old.queue ++ record { tag = record { kind = c.args.kind; request = old.life.given.first_owed; ansno = n }; octets = c.args.octets.now } ∷ []) (c.next_ansno.ensures ∙ ap (λ (h : Held). ansno_of h c.args.kind) (sym is)))),
    )

pub returns-clause-ok : goal.returns-clause-ok
returns-clause-ok c =
    let old : Held = record { number = c.self.inside.number; life = c.self.inside.exchange; queue = c.self.inside.outbox.messages; seqno = c.self.inside.seqno; sends = c.self.inside.sends; receives = c.self.inside.receives; inbox = c.self.inside.inbox.runs } in
    let is : old ≡ c.args.self.now.held = ap (λ (v : Live). v.held) c.self.view_is in
    subst (λ (h : Held). StandsGiven h (record old { life = c.note_given.new.self; queue = c.give.new.self.messages }) (message_marks (next_reply h c.args.kind c.args.octets.now))) is
    (reply-goal old c.args.kind c.args.octets.now (subst (λ (h : Held). IsReply h c.args.kind c.args.octets.now) (sym is) c.requires.may)
    (sym (refusal-is c.self.inside.outbox old refl c.self.invariant.0 (length c.args.octets.now)) ∙ c.in_ok-give.ensures.accepted)
    c.note_given.new.self c.note_given.ensures.value c.note_given.ensures.received c.note_given.ensures.sent
    c.give.new.self.messages (c.in_ok-give.ensures.ok ∙ ap (λ (n : ℕ). old.queue ++ record { tag = record { kind = c.args.kind; request = n; ansno = c.next_ansno.result }; octets = c.args.octets.now } ∷ []) (owed-place old.life.given c.in-Some.request (sym c.first_owed.ensures.value ∙ c.in-Some.is))
    ∙ ap (λ (n : ℕ). old.queue ++ record { tag = record { kind = c.args.kind; request = old.life.given.first_owed; ansno = n }; octets = c.args.octets.now } ∷ []) (c.next_ansno.ensures ∙ ap (λ (h : Held). ansno_of h c.args.kind) (sym is))))
