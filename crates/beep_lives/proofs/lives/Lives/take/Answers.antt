-- The part leaves its channel.
use Rattle.std.proofs.Common.{◌≡◌, [], List, Some, slice_set, arith, IfSome}
use Rattle.beep_channel.specs.Held.{Live}
use Rattle.beep_lives.specs.Lives.{live_at}
use Rattle.beep_lives.specs.Edits.{Takes, Edits}
use Rattle.beep_lives.proofs.LivesLemmas.{IsHere, here, kept, edited}
use Rattle.beep_lives.proofs.CallLemmas.{was-now, at-live, if-some, if-none, same-room}
use Rattle.beep_channel.specs.Stands.{TakesPart}
use Rattle.beep_lives.proofs.CallLemmas.{taken-number}
use Rattle.beep_lives.proofs.lives.Lives.take.Goals as goal

pub invariant_of-self : goal.invariant_of-self
invariant_of-self c =
    let items : List Live = c.self.inside.channels.items in
    let b : Live = c.index_mut-channel.result.now in
    let h : IsHere c.args.number c.in-Some.i items b =
    here c.args.number c.in-Some.i c.args.self.now items b c.self.view_is c.in-Some.ensures.some c.index_mut-channel.ensures.value in
    let ready_room = c.note.ensures.ready_room in
    let due_room = c.note.ensures.due_room in
    let ready_was = c.self.invariant.2 in
    let due_was = c.self.invariant.3 in (
      kept c.args.number c.in-Some.i c.self.inside.turns items c.self.inside.ready.items c.self.inside.due.items b c.take-part.new.self c.note.new.ready.items c.note.new.due.items
          c.self.invariant.0 h (taken-number c.take-part.result b c.take-part.new.self c.args.buf.now c.take-part.new.buf c.take-part.ensures.some c.take-part.ensures.kept) c.note.ensures.ready c.note.ensures.due,
      c.self.invariant.1,
      omega (arith, ready_room, ready_was),
      omega (arith, due_room, due_was),
    )

pub returns-clause-some : goal.returns-clause-some
returns-clause-some c =
    let items : List Live = c.self.inside.channels.items in
    let b : Live = c.index_mut-channel.result.now in
    let h : IsHere c.args.number c.in-Some.i items b =
    here c.args.number c.in-Some.i c.args.self.now items b c.self.view_is c.in-Some.ensures.some c.index_mut-channel.ensures.value in
    if-some c.take-part.result (λ part. TakesPart part b.held c.take-part.new.self.held c.args.buf.now c.take-part.new.buf)
    (λ part. Edits c.args.number (Takes part c.args.buf.now c.take-part.new.buf) c.args.self.now (slice_set items c.in-Some.i c.take-part.new.self))
    (λ part takes. edited c.args.number c.in-Some.i (Takes part c.args.buf.now c.take-part.new.buf) c.args.self.now items b c.take-part.new.self c.self.view_is h takes.same.number
    (record { takes = takes; under = c.take-part.ensures.under; keeps = same-room b c.take-part.new.self c.take-part.ensures.room.1 }))
    c.take-part.ensures.some

pub returns-clause-none : goal.returns-clause-none
returns-clause-none c =
    let items : List Live = c.self.inside.channels.items in
    let b : Live = c.index_mut-channel.result.now in
    let h : IsHere c.args.number c.in-Some.i items b =
    here c.args.number c.in-Some.i c.args.self.now items b c.self.view_is c.in-Some.ensures.some c.index_mut-channel.ensures.value in
    let was : live_at c.args.number c.args.self.now ≡ Some b = was-now c.args.number c.in-Some.i c.args.self.now items b c.self.view_is h in
    if-none c.take-part.result (b.held.inbox ≡ []) (IfSome (live_at c.args.number c.args.self.now) (λ channel. channel.held.inbox ≡ []))
    (λ none. at-live (live_at c.args.number c.args.self.now) b (λ channel. channel.held.inbox ≡ []) was none)
    c.take-part.ensures.none
