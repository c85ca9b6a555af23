-- A reply that is next has a request that waits for it.
use Rattle.std.proofs.Common.{◌≡◌, ◌<◌, ap, sym, subst, true}
use Rattle.beep_channel.specs.Held.{Held, Live}
use Rattle.beep_channel.specs.Held.{is_held_ready}
use Rattle.beep_channel.proofs.CallLemmas.{some-waits}
use Rattle.beep_channel.proofs.channel.Channel.next_head.Goals as goal

pub next_number-requires : goal.next_number-requires
next_number-requires c = record {
  waits = λ r.
      let old : Held = record { number = c.self.inside.number; life = c.self.inside.exchange; queue = c.self.inside.outbox.messages; seqno = c.self.inside.seqno; sends = c.self.inside.sends; receives = c.self.inside.receives; inbox = c.self.inside.inbox.runs } in
      let is : old ≡ c.args.self.now.held = ap (λ (v : Live). v.held) c.self.view_is in
      subst (λ (h : Held). 0 < h.life.received.waiting) is
      (some-waits old c.self.invariant.2 (subst (λ (h : Held). is_held_ready h ≡ true) (sym is) c.requires.ready) c.next_tag-tag.result c.next_tag-tag.ensures r);
}
