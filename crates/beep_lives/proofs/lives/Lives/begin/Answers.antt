-- The header begins in its channel.
use Rattle.std.proofs.Common.{◌≡◌, List, Some, sym, ◌∙◌, arith}
use Rattle.beep_channel.specs.Held.{Live}
use Rattle.beep_lives.specs.Lives.{live_at}
use Rattle.beep_lives.specs.Edits.{Begins}
use Rattle.beep_lives.proofs.LivesLemmas.{IsHere, here, kept, edited}
use Rattle.beep_lives.proofs.CallLemmas.{was-now, judged-here, not-begun, same-room}
use Rattle.beep_lives.proofs.lives.Lives.begin.Goals as goal

pub begin-requires-clause-judged : goal.begin-requires-clause-judged
begin-requires-clause-judged c =
    let items : List Live = c.self.inside.channels.items in
    let b : Live = c.index_mut-channel.result.now in
    let h : IsHere c.args.head.now.channel c.in-Some.i items b =
    here c.args.head.now.channel c.in-Some.i c.args.self.now items b c.self.view_is c.in-Some.ensures.some c.index_mut-channel.ensures.value in
    let was : live_at c.args.head.now.channel c.args.self.now ≡ Some b = was-now c.args.head.now.channel c.in-Some.i c.args.self.now items b c.self.view_is h in
    judged-here c.args.self.now b c.args.head.now was ∙ c.requires.judged

pub begin-requires-clause-whole : goal.begin-requires-clause-whole
begin-requires-clause-whole c =
    let items : List Live = c.self.inside.channels.items in
    let b : Live = c.index_mut-channel.result.now in
    let h : IsHere c.args.head.now.channel c.in-Some.i items b =
    here c.args.head.now.channel c.in-Some.i c.args.self.now items b c.self.view_is c.in-Some.ensures.some c.index_mut-channel.ensures.value in
    let was : live_at c.args.head.now.channel c.args.self.now ≡ Some b = was-now c.args.head.now.channel c.in-Some.i c.args.self.now items b c.self.view_is h in
    not-begun (live_at c.args.head.now.channel c.args.self.now) b was c.requires.whole

pub begin-requires-clause-channel : goal.begin-requires-clause-channel
begin-requires-clause-channel c =
    let items : List Live = c.self.inside.channels.items in
    let b : Live = c.index_mut-channel.result.now in
    let h : IsHere c.args.head.now.channel c.in-Some.i items b =
    here c.args.head.now.channel c.in-Some.i c.args.self.now items b c.self.view_is c.in-Some.ensures.some c.index_mut-channel.ensures.value in
    sym h.number_is

pub invariant_of-self : goal.invariant_of-self
invariant_of-self c =
    let items : List Live = c.self.inside.channels.items in
    let b : Live = c.index_mut-channel.result.now in
    let h : IsHere c.args.head.now.channel c.in-Some.i items b =
    here c.args.head.now.channel c.in-Some.i c.args.self.now items b c.self.view_is c.in-Some.ensures.some c.index_mut-channel.ensures.value in
    let ready_room = c.note.ensures.ready_room in
    let due_room = c.note.ensures.due_room in
    let ready_was = c.self.invariant.2 in
    let due_was = c.self.invariant.3 in (
      kept c.args.head.now.channel c.in-Some.i c.self.inside.turns items c.self.inside.ready.items c.self.inside.due.items b c.begin.new.self c.note.new.ready.items c.note.new.due.items
          c.self.invariant.0 h (c.begin.ensures.same.number) c.note.ensures.ready c.note.ensures.due,
      c.self.invariant.1,
      omega (arith, ready_room, ready_was),
      omega (arith, due_room, due_was),
    )

pub returns : goal.returns
returns c =
    let items : List Live = c.self.inside.channels.items in
    let b : Live = c.index_mut-channel.result.now in
    let h : IsHere c.args.head.now.channel c.in-Some.i items b =
    here c.args.head.now.channel c.in-Some.i c.args.self.now items b c.self.view_is c.in-Some.ensures.some c.index_mut-channel.ensures.value in
    edited c.args.head.now.channel c.in-Some.i (Begins c.args.head.now) c.args.self.now items b c.begin.new.self c.self.view_is h c.begin.ensures.same.number
    (record { stands = c.begin.ensures.stands; begun = c.begin.ensures.begun; same = c.begin.ensures.same; room = c.begin.ensures.room.runs; keeps = same-room b c.begin.new.self c.begin.ensures.room.out })
