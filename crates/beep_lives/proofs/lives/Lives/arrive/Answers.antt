-- The frame arrives in the channel in which it began.
use Rattle.std.proofs.Common.{◌≡◌, not, ◌<◌, List, Some, sym, ap, ◌∙◌, arith}
use Rattle.beep_channel.specs.Held.{Live, Held}
use Rattle.beep_lives.specs.Lives.{live_at, receiving_of}
use Rattle.beep_lives.specs.Edits.{Arrives}
use Rattle.beep_lives.proofs.LivesLemmas.{IsHere, here, kept, edited}
use Rattle.beep_lives.proofs.CallLemmas.{was-now, begun-here, live-of, keeps, same-room}
use Rattle.beep_frame.specs.declared.head.Head.{Head as HeadValue}
use Rattle.beep_lives.proofs.CallLemmas.{not-here, is-begun}
use Rattle.beep_lives.proofs.lives.Lives.arrive.Goals as goal

pub returns-then-is_none-clause-arrived : goal.returns-then-is_none-clause-arrived
returns-then-is_none-clause-arrived c =
    let items : List Live = c.self.inside.channels.items in
    let b : Live = c.index_mut-channel.result.now in
    let h : IsHere c.args.head.now.channel c.in-Some.i items b =
    here c.args.head.now.channel c.in-Some.i c.args.self.now items b c.self.view_is c.in-Some.ensures.some c.index_mut-channel.ensures.value in
    let was : live_at c.args.head.now.channel c.args.self.now ≡ Some b = was-now c.args.head.now.channel c.in-Some.i c.args.self.now items b c.self.view_is h in
    not-here (live_at c.args.head.now.channel c.args.self.now) b c.receiving.result was c.receiving.ensures.value (c.is_none.ensures ∙ ap not c.if-is_none.true)

pub arrive-arrived-requires-clause-sized : goal.arrive-arrived-requires-clause-sized
arrive-arrived-requires-clause-sized c = λ head under.
    let items : List Live = c.self.inside.channels.items in
    let b : Live = c.index_mut-channel.result.now in
    let h : IsHere c.args.head.now.channel c.in-Some.i items b =
    here c.args.head.now.channel c.in-Some.i c.args.self.now items b c.self.view_is c.in-Some.ensures.some c.index_mut-channel.ensures.value in
    let was : live_at c.args.head.now.channel c.args.self.now ≡ Some b = was-now c.args.head.now.channel c.in-Some.i c.args.self.now items b c.self.view_is h in
    let same : head ≡ c.args.head.now = c.requires.begun head (ap receiving_of was ∙ under) in
    c.requires.sized ∙ ap (λ (x : HeadValue). x.size) (sym same)

pub invariant_of-self-in-Err : goal.invariant_of-self-in-Err
invariant_of-self-in-Err c =
    let items : List Live = c.self.inside.channels.items in
    let b : Live = c.index_mut-channel.result.now in
    let h : IsHere c.args.head.now.channel c.in-Some.i items b =
    here c.args.head.now.channel c.in-Some.i c.args.self.now items b c.self.view_is c.in-Some.ensures.some c.index_mut-channel.ensures.value in
    let ready_room = c.note.ensures.ready_room in
    let due_room = c.note.ensures.due_room in
    let ready_was = c.self.invariant.2 in
    let due_was = c.self.invariant.3 in (
      kept c.args.head.now.channel c.in-Some.i c.self.inside.turns items c.self.inside.ready.items c.self.inside.due.items b c.arrive-arrived.new.self c.note.new.ready.items c.note.new.due.items
          c.self.invariant.0 h (ap (λ (x : Held). x.number) c.in-Err.ensures.err) c.note.ensures.ready c.note.ensures.due,
      c.self.invariant.1,
      omega (arith, ready_room, ready_was),
      omega (arith, due_room, due_was),
    )

pub invariant_of-self-2 : goal.invariant_of-self-2
invariant_of-self-2 c =
    let items : List Live = c.self.inside.channels.items in
    let b : Live = c.index_mut-channel.result.now in
    let h : IsHere c.args.head.now.channel c.in-Some.i items b =
    here c.args.head.now.channel c.in-Some.i c.args.self.now items b c.self.view_is c.in-Some.ensures.some c.index_mut-channel.ensures.value in
    let ready_room = c.note.ensures.ready_room in
    let due_room = c.note.ensures.due_room in
    let ready_was = c.self.invariant.2 in
    let due_was = c.self.invariant.3 in (
      kept c.args.head.now.channel c.in-Some.i c.self.inside.turns items c.self.inside.ready.items c.self.inside.due.items b c.arrive-arrived.new.self c.note.new.ready.items c.note.new.due.items
          c.self.invariant.0 h (c.in-Ok.ensures.same.number) c.note.ensures.ready c.note.ensures.due,
      c.self.invariant.1,
      omega (arith, ready_room, ready_was),
      omega (arith, due_room, due_was),
    )

pub returns-in-Err-clause-err : goal.returns-in-Err-clause-err
returns-in-Err-clause-err c =
    let items : List Live = c.self.inside.channels.items in
    let b : Live = c.index_mut-channel.result.now in
    let h : IsHere c.args.head.now.channel c.in-Some.i items b =
    here c.args.head.now.channel c.in-Some.i c.args.self.now items b c.self.view_is c.in-Some.ensures.some c.index_mut-channel.ensures.value in
    keeps c.args.head.now.channel c.in-Some.i c.args.self.now items b c.arrive-arrived.new.self c.self.view_is h c.in-Err.ensures.err (same-room b c.arrive-arrived.new.self c.arrive-arrived.ensures.room.1)

pub returns-in-Err-clause-succeeds : goal.returns-in-Err-clause-succeeds
returns-in-Err-clause-succeeds c = λ room.
    let items : List Live = c.self.inside.channels.items in
    let b : Live = c.index_mut-channel.result.now in
    let h : IsHere c.args.head.now.channel c.in-Some.i items b =
    here c.args.head.now.channel c.in-Some.i c.args.self.now items b c.self.view_is c.in-Some.ensures.some c.index_mut-channel.ensures.value in
    let was : live_at c.args.head.now.channel c.args.self.now ≡ Some b = was-now c.args.head.now.channel c.in-Some.i c.args.self.now items b c.self.view_is h in
    c.in-Err.ensures.succeeds (live-of (live_at c.args.head.now.channel c.args.self.now) b (λ channel. 0 < channel.runs) was room)

pub returns-clause-ok : goal.returns-clause-ok
returns-clause-ok c =
    let items : List Live = c.self.inside.channels.items in
    let b : Live = c.index_mut-channel.result.now in
    let h : IsHere c.args.head.now.channel c.in-Some.i items b =
    here c.args.head.now.channel c.in-Some.i c.args.self.now items b c.self.view_is c.in-Some.ensures.some c.index_mut-channel.ensures.value in
    let was : live_at c.args.head.now.channel c.args.self.now ≡ Some b = was-now c.args.head.now.channel c.in-Some.i c.args.self.now items b c.self.view_is h in
    let has = is-begun (live_at c.args.head.now.channel c.args.self.now) b c.receiving.result was c.receiving.ensures.value (c.is_none.ensures ∙ ap not c.if-is_none.false) in
    let under = begun-here (live_at c.args.head.now.channel c.args.self.now) b c.args.head.now was has c.requires.begun in
    edited c.args.head.now.channel c.in-Some.i (Arrives c.args.head.now c.args.payload.now) c.args.self.now items b c.arrive-arrived.new.self c.self.view_is h c.in-Ok.ensures.same.number
    (record { begun = under; stands = c.in-Ok.ensures.stands c.args.head.now under; whole = c.in-Ok.ensures.whole; same = c.in-Ok.ensures.same; keeps = same-room b c.arrive-arrived.new.self c.arrive-arrived.ensures.room.1 })

pub returns-clause-arrived : goal.returns-clause-arrived
returns-clause-arrived c =
    let items : List Live = c.self.inside.channels.items in
    let b : Live = c.index_mut-channel.result.now in
    let h : IsHere c.args.head.now.channel c.in-Some.i items b =
    here c.args.head.now.channel c.in-Some.i c.args.self.now items b c.self.view_is c.in-Some.ensures.some c.index_mut-channel.ensures.value in
    let was : live_at c.args.head.now.channel c.args.self.now ≡ Some b = was-now c.args.head.now.channel c.in-Some.i c.args.self.now items b c.self.view_is h in
    sym (is-begun (live_at c.args.head.now.channel c.args.self.now) b c.receiving.result was c.receiving.ensures.value (c.is_none.ensures ∙ ap not c.if-is_none.false))
