-- Room changes nothing that is held.
use Rattle.std.proofs.Common.{◌≡◌, ap, sym, subst, ◌∙◌, List}
use Rattle.beep_inbox.specs.Runs.{Run}
use Rattle.beep_channel.specs.Held.{Held, Live}
use Rattle.beep_channel.proofs.TakeLemmas.{Reached}
use Rattle.beep_channel.proofs.channel.Channel.make_room.Goals as goal

pub invariant_of-self : goal.invariant_of-self
invariant_of-self c =
    let old : Held = record { number = c.self.inside.number; life = c.self.inside.exchange; queue = c.self.inside.outbox.messages; seqno = c.self.inside.seqno; sends = c.self.inside.sends; receives = c.self.inside.receives; inbox = c.self.inside.inbox.runs } in
    let is : old ≡ c.args.self.now.held = ap (λ (v : Live). v.held) c.self.view_is in (
      c.self.invariant.0,
      c.make_room.ensures.window ∙ c.self.invariant.1,
      subst (λ (r : List Run). Reached (record old { inbox = r })) (sym c.make_room.ensures.kept) c.self.invariant.2,
    )
