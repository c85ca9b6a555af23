-- The channel obeys, or refuses and stays as it was.
use Rattle.std.proofs.Common.{◌≡◌, ℕ, true, false, List, None, Some, sym, ap, ◌∙◌, arith}
use Rattle.std.specs.Prelude.{is_some}
use Rattle.beep_channel.specs.Held.{Live}
use Rattle.beep_lives.specs.Lives.{live_at}
use Rattle.beep_lives.specs.Edits.{Obeys}
use Rattle.beep_lives.proofs.LivesLemmas.{IsHere, here, kept, edited}
use Rattle.beep_lives.proofs.CallLemmas.{was-now, at-live, same-room}
use Rattle.beep_history.specs.declared.journal.Side.{Side}
use Rattle.beep_history.specs.Journal.{Item}
use Rattle.beep_history.specs.Marks.{Mark}
use Rattle.beep_history.specs.Windows.{is_bad_ack}
use Rattle.beep_channel.specs.Stands.{Stands}
use Rattle.beep_lives.proofs.lives.Lives.acked.Goals as goal

pub invariant_of-self : goal.invariant_of-self
invariant_of-self c =
    let items : List Live = c.self.inside.channels.items in
    let b : Live = c.index_mut-channel.result.now in
    let h : IsHere c.args.seq.now.channel c.in-Some.i items b =
    here c.args.seq.now.channel c.in-Some.i c.args.self.now items b c.self.view_is c.in-Some.ensures.some c.index_mut-channel.ensures.value in
    let ready_room = c.note.ensures.ready_room in
    let due_room = c.note.ensures.due_room in
    let ready_was = c.self.invariant.2 in
    let due_was = c.self.invariant.3 in (
      kept c.args.seq.now.channel c.in-Some.i c.self.inside.turns items c.self.inside.ready.items c.self.inside.due.items b c.acked-obeyed.new.self c.note.new.ready.items c.note.new.due.items
          c.self.invariant.0 h (c.acked-obeyed.ensures.same.number) c.note.ensures.ready c.note.ensures.due,
      c.self.invariant.1,
      omega (arith, ready_room, ready_was),
      omega (arith, due_room, due_was),
    )

pub invariant_of-self-2 : goal.invariant_of-self-2
invariant_of-self-2 c =
    let items : List Live = c.self.inside.channels.items in
    let b : Live = c.index_mut-channel.result.now in
    let h : IsHere c.args.seq.now.channel c.in-Some.i items b =
    here c.args.seq.now.channel c.in-Some.i c.args.self.now items b c.self.view_is c.in-Some.ensures.some c.index_mut-channel.ensures.value in
    let ready_room = c.note.ensures.ready_room in
    let due_room = c.note.ensures.due_room in
    let ready_was = c.self.invariant.2 in
    let due_was = c.self.invariant.3 in (
      kept c.args.seq.now.channel c.in-Some.i c.self.inside.turns items c.self.inside.ready.items c.self.inside.due.items b c.acked-obeyed.new.self c.note.new.ready.items c.note.new.due.items
          c.self.invariant.0 h (c.acked-obeyed.ensures.same.number) c.note.ensures.ready c.note.ensures.due,
      c.self.invariant.1,
      omega (arith, ready_room, ready_was),
      omega (arith, due_room, due_was),
    )

pub returns-clause-ok : goal.returns-clause-ok
returns-clause-ok c =
    let items : List Live = c.self.inside.channels.items in
    let b : Live = c.index_mut-channel.result.now in
    let h : IsHere c.args.seq.now.channel c.in-Some.i items b =
    here c.args.seq.now.channel c.in-Some.i c.args.self.now items b c.self.view_is c.in-Some.ensures.some c.index_mut-channel.ensures.value in
    edited c.args.seq.now.channel c.in-Some.i (Obeys c.args.seq.now) c.args.self.now items b c.acked-obeyed.new.self c.self.view_is h c.acked-obeyed.ensures.same.number
    (record { stands = c.in-Ok.ensures.ok; under = c.acked-obeyed.ensures.under; same = c.acked-obeyed.ensures.same; keeps = same-room b c.acked-obeyed.new.self c.acked-obeyed.ensures.room.out })

pub returns-clause-obeyed : goal.returns-clause-obeyed
returns-clause-obeyed c =
    let items : List Live = c.self.inside.channels.items in
    let b : Live = c.index_mut-channel.result.now in
    let h : IsHere c.args.seq.now.channel c.in-Some.i items b =
    here c.args.seq.now.channel c.in-Some.i c.args.self.now items b c.self.view_is c.in-Some.ensures.some c.index_mut-channel.ensures.value in
    let was : live_at c.args.seq.now.channel c.args.self.now ≡ Some b = was-now c.args.seq.now.channel c.in-Some.i c.args.self.now items b c.self.view_is h in
    sym (ap is_some was)

pub returns-clause-refused : goal.returns-clause-refused
returns-clause-refused c =
    let items : List Live = c.self.inside.channels.items in
    let b : Live = c.index_mut-channel.result.now in
    let h : IsHere c.args.seq.now.channel c.in-Some.i items b =
    here c.args.seq.now.channel c.in-Some.i c.args.self.now items b c.self.view_is c.in-Some.ensures.some c.index_mut-channel.ensures.value in
    let was : live_at c.args.seq.now.channel c.args.self.now ≡ Some b = was-now c.args.seq.now.channel c.in-Some.i c.args.self.now items b c.self.view_is h in
    at-live (live_at c.args.seq.now.channel c.args.self.now) b
    (λ channel. (size : ℕ) (past : List Item) (given taken : List Mark) → Stands size channel.held past given taken → false ≡ is_bad_ack Side.Received past c.args.seq.now)
    was c.in-Ok.ensures.refused

pub returns-in-Err-clause-refused : goal.returns-in-Err-clause-refused
returns-in-Err-clause-refused c =
    let items : List Live = c.self.inside.channels.items in
    let b : Live = c.index_mut-channel.result.now in
    let h : IsHere c.args.seq.now.channel c.in-Some.i items b =
    here c.args.seq.now.channel c.in-Some.i c.args.self.now items b c.self.view_is c.in-Some.ensures.some c.index_mut-channel.ensures.value in
    let was : live_at c.args.seq.now.channel c.args.self.now ≡ Some b = was-now c.args.seq.now.channel c.in-Some.i c.args.self.now items b c.self.view_is h in
    at-live (live_at c.args.seq.now.channel c.args.self.now) b
    (λ channel. (size : ℕ) (past : List Item) (given taken : List Mark) → Stands size channel.held past given taken → true ≡ is_bad_ack Side.Received past c.args.seq.now)
    was c.in-Err.ensures.refused

pub returns-in-Err-clause-none : goal.returns-in-Err-clause-none
returns-in-Err-clause-none c = λ none.
    let items : List Live = c.self.inside.channels.items in
    let b : Live = c.index_mut-channel.result.now in
    let h : IsHere c.args.seq.now.channel c.in-Some.i items b =
    here c.args.seq.now.channel c.in-Some.i c.args.self.now items b c.self.view_is c.in-Some.ensures.some c.index_mut-channel.ensures.value in
    let was : live_at c.args.seq.now.channel c.args.self.now ≡ Some b = was-now c.args.seq.now.channel c.in-Some.i c.args.self.now items b c.self.view_is h in
    absurd (let g : None ≡ Some b = sym none ∙ was in cc)
