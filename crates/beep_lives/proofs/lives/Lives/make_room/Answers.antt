-- Room alone changes.
use Rattle.std.proofs.Common.{◌<◌, List, slice_set, ap, IfSome}
use Rattle.beep_channel.specs.Held.{Live, Held}
use Rattle.beep_lives.specs.Lives.{live_at}
use Rattle.beep_lives.proofs.LivesLemmas.{IsHere, here, kept-same}
use Rattle.beep_lives.proofs.CallLemmas.{is-after, at-live, on-ok, keeps-where, same-room}
use Rattle.beep_lives.proofs.lives.Lives.make_room.Goals as goal

pub invariant_of-self : goal.invariant_of-self
invariant_of-self c =
    let items : List Live = c.self.inside.channels.items in
    let b : Live = c.index_mut-channel.result.now in
    let h : IsHere c.args.number c.in-Some.i items b =
    here c.args.number c.in-Some.i c.args.self.now items b c.self.view_is c.in-Some.ensures.some c.index_mut-channel.ensures.value in (
      kept-same c.in-Some.i items b c.make_room.new.self c.index_mut-channel.ensures.value c.args.number c.self.inside.turns c.self.inside.ready.items c.self.inside.due.items
          c.self.invariant.0 h c.make_room.ensures.kept,
      c.self.invariant.1,
      c.self.invariant.2,
      c.self.invariant.3,
    )

pub returns-clause-ok : goal.returns-clause-ok
returns-clause-ok c =
    let items : List Live = c.self.inside.channels.items in
    let b : Live = c.index_mut-channel.result.now in
    let h : IsHere c.args.number c.in-Some.i items b =
    here c.args.number c.in-Some.i c.args.self.now items b c.self.view_is c.in-Some.ensures.some c.index_mut-channel.ensures.value in
    let after = is-after c.args.number c.in-Some.i items b c.make_room.new.self h (ap (λ (x : Held). x.number) c.make_room.ensures.kept) in
    on-ok c.make_room.result (0 < c.make_room.new.self.runs) (IfSome (live_at c.args.number (slice_set items c.in-Some.i c.make_room.new.self)) (λ channel. 0 < channel.runs))
    (λ room. at-live (live_at c.args.number (slice_set items c.in-Some.i c.make_room.new.self)) c.make_room.new.self (λ channel. 0 < channel.runs) after room)
    c.make_room.ensures.ok

pub returns-clause-kept : goal.returns-clause-kept
returns-clause-kept c =
    let items : List Live = c.self.inside.channels.items in
    let b : Live = c.index_mut-channel.result.now in
    let h : IsHere c.args.number c.in-Some.i items b =
    here c.args.number c.in-Some.i c.args.self.now items b c.self.view_is c.in-Some.ensures.some c.index_mut-channel.ensures.value in
    keeps-where c.args.number c.in-Some.i c.args.self.now items b c.make_room.new.self c.self.view_is h c.make_room.ensures.kept (same-room b c.make_room.new.self c.make_room.ensures.room.1)
