-- The untaken octets and those of the frame that has begun are within the window, and the untaken ends are few.
use Rattle.std.proofs.Common.{◌≡◌, ◌+◌, ◌≤◌, ap, subst}
use Rattle.std.specs.Option.{option_map_or}
use Rattle.beep_history.specs.declared.limits.TheConstants.{MAX_REQUESTS, MAX_ANSWERS}
use Rattle.beep_frame.specs.declared.head.Head.{Head}
use Rattle.beep_inbox.specs.Runs.{octets_of}
use Rattle.beep_channel.specs.Held.{Held, Live}
use Rattle.beep_channel.specs.Stands.{untaken_ends}
use Rattle.beep_channel.proofs.CallLemmas.{bounded-any}
use Rattle.beep_channel.proofs.BoundedLemmas.{ends-bounded}
use Rattle.beep_channel.proofs.channel.Channel.receiving.Goals as goal

pub returns-clause-bounded : goal.returns-clause-bounded
returns-clause-bounded c =
    let old : Held = record { number = c.self.inside.number; life = c.self.inside.exchange; queue = c.self.inside.outbox.messages; seqno = c.self.inside.seqno; sends = c.self.inside.sends; receives = c.self.inside.receives; inbox = c.self.inside.inbox.runs } in
    let is : old ≡ c.args.self.now.held = ap (λ (v : Live). v.held) c.self.view_is in
    subst (λ (h : Held). octets_of h.inbox + option_map_or (λ (head : Head). head.size) h.life.received.under_way 0 ≤ h.receives.size) is
    (bounded-any old c.self.invariant.2)

pub returns-clause-ends : goal.returns-clause-ends
returns-clause-ends c =
    let old : Held = record { number = c.self.inside.number; life = c.self.inside.exchange; queue = c.self.inside.outbox.messages; seqno = c.self.inside.seqno; sends = c.self.inside.sends; receives = c.self.inside.receives; inbox = c.self.inside.inbox.runs } in
    let is : old ≡ c.args.self.now.held = ap (λ (v : Live). v.held) c.self.view_is in
    subst (λ (h : Held). untaken_ends h ≤ octets_of h.inbox + (MAX_REQUESTS + MAX_REQUESTS + MAX_ANSWERS)) is
    (ends-bounded old c.self.invariant.2)
