-- The request joins what was given in its channel.
use Rattle.std.proofs.Common.{◌<◌, ◌≤◌, IsOk, ◌≡◌, ◌≢◌, List, length, None, Some, slice_set, sym, ◌∙◌, arith, OnOk, IfOk, IfErr}
use Rattle.beep_channel.specs.Held.{HasRoomOut, Live}
use Rattle.beep_lives.specs.Lives.{live_at}
use Rattle.beep_lives.specs.Edits.{UsesRoom, Gives, KeepsHeld, Edits}
use Rattle.beep_lives.proofs.LivesLemmas.{IsHere, here, kept, edited}
use Rattle.beep_lives.proofs.CallLemmas.{was-now, at-live, on-ok, keeps, both-err}
use Rattle.beep_outbox.specs.Queue.{message_marks}
use Rattle.beep_exchange.specs.Given.{next_asked_now}
use Rattle.beep_channel.specs.Held.{next_ask, ask_refusal}
use Rattle.beep_channel.specs.Stands.{StandsGiven}
use Rattle.beep_channel.specs.declared.ask_error.AskError.{AskError as AskErrorValue}
use Rattle.beep_lives.proofs.lives.Lives.give_ask.Goals as goal

pub give_ask-position-requires : goal.give_ask-position-requires
give_ask-position-requires c =
    let items : List Live = c.self.inside.channels.items in
    let b : Live = c.index_mut-channel.result.now in
    let h : IsHere c.args.number c.in-Some.i items b =
    here c.args.number c.in-Some.i c.args.self.now items b c.self.view_is c.in-Some.ensures.some c.index_mut-channel.ensures.value in
    record { fits = λ zero. c.requires.fits (sym h.number_is ∙ zero) }

pub invariant_of-self : goal.invariant_of-self
invariant_of-self c =
    let items : List Live = c.self.inside.channels.items in
    let b : Live = c.index_mut-channel.result.now in
    let h : IsHere c.args.number c.in-Some.i items b =
    here c.args.number c.in-Some.i c.args.self.now items b c.self.view_is c.in-Some.ensures.some c.index_mut-channel.ensures.value in
    let ready_room = c.note.ensures.ready_room in
    let due_room = c.note.ensures.due_room in
    let ready_was = c.self.invariant.2 in
    let due_was = c.self.invariant.3 in (
      kept c.args.number c.in-Some.i c.self.inside.turns items c.self.inside.ready.items c.self.inside.due.items b c.give_ask-position.new.self c.note.new.ready.items c.note.new.due.items
          c.self.invariant.0 h (c.give_ask-position.ensures.same.number) c.note.ensures.ready c.note.ensures.due,
      c.self.invariant.1,
      omega (arith, ready_room, ready_was),
      omega (arith, due_room, due_was),
    )

pub returns-clause-ok : goal.returns-clause-ok
returns-clause-ok c =
    let items : List Live = c.self.inside.channels.items in
    let b : Live = c.index_mut-channel.result.now in
    let h : IsHere c.args.number c.in-Some.i items b =
    here c.args.number c.in-Some.i c.args.self.now items b c.self.view_is c.in-Some.ensures.some c.index_mut-channel.ensures.value in
    let was : live_at c.args.number c.args.self.now ≡ Some b = was-now c.args.number c.in-Some.i c.args.self.now items b c.self.view_is h in
    let new : List Live = slice_set items c.in-Some.i c.give_ask-position.new.self in
    at-live (live_at c.args.number c.args.self.now) b
    (λ channel. OnOk c.give_ask-position.result (Edits c.args.number (Gives (message_marks (next_ask channel.held c.args.octets.now))) c.args.self.now new)) was
    (on-ok c.give_ask-position.result (StandsGiven b.held c.give_ask-position.new.self.held (message_marks (next_ask b.held c.args.octets.now))) (Edits c.args.number (Gives (message_marks (next_ask b.held c.args.octets.now))) c.args.self.now new)
    (λ stands. edited c.args.number c.in-Some.i (Gives (message_marks (next_ask b.held c.args.octets.now))) c.args.self.now items b c.give_ask-position.new.self c.self.view_is h c.give_ask-position.ensures.same.number
    (record { stands = stands; under = c.give_ask-position.ensures.under; same = c.give_ask-position.ensures.same }))
    c.give_ask-position.ensures.ok)

pub returns-clause-value : goal.returns-clause-value
returns-clause-value c =
    let items : List Live = c.self.inside.channels.items in
    let b : Live = c.index_mut-channel.result.now in
    let h : IsHere c.args.number c.in-Some.i items b =
    here c.args.number c.in-Some.i c.args.self.now items b c.self.view_is c.in-Some.ensures.some c.index_mut-channel.ensures.value in
    let was : live_at c.args.number c.args.self.now ≡ Some b = was-now c.args.number c.in-Some.i c.args.self.now items b c.self.view_is h in
    at-live (live_at c.args.number c.args.self.now) b (λ channel. IfOk c.give_ask-position.result (λ position. position ≡ next_asked_now channel.held.life.given)) was c.give_ask-position.ensures.value

pub returns-clause-accepted : goal.returns-clause-accepted
returns-clause-accepted c =
    let items : List Live = c.self.inside.channels.items in
    let b : Live = c.index_mut-channel.result.now in
    let h : IsHere c.args.number c.in-Some.i items b =
    here c.args.number c.in-Some.i c.args.self.now items b c.self.view_is c.in-Some.ensures.some c.index_mut-channel.ensures.value in
    let was : live_at c.args.number c.args.self.now ≡ Some b = was-now c.args.number c.in-Some.i c.args.self.now items b c.self.view_is h in
    at-live (live_at c.args.number c.args.self.now) b (λ channel. OnOk c.give_ask-position.result (ask_refusal channel.held (length c.args.octets.now) ≡ None)) was c.give_ask-position.ensures.accepted

pub returns-clause-refused : goal.returns-clause-refused
returns-clause-refused c =
    let items : List Live = c.self.inside.channels.items in
    let b : Live = c.index_mut-channel.result.now in
    let h : IsHere c.args.number c.in-Some.i items b =
    here c.args.number c.in-Some.i c.args.self.now items b c.self.view_is c.in-Some.ensures.some c.index_mut-channel.ensures.value in
    let was : live_at c.args.number c.args.self.now ≡ Some b = was-now c.args.number c.in-Some.i c.args.self.now items b c.self.view_is h in
    at-live (live_at c.args.number c.args.self.now) b
    (λ channel. IfErr c.give_ask-position.result (λ error. error ≢ AskErrorValue.NoMemory → ask_refusal channel.held (length c.args.octets.now) ≡ Some error)) was c.give_ask-position.ensures.refused

pub returns-clause-err : goal.returns-clause-err
returns-clause-err c =
    let items : List Live = c.self.inside.channels.items in
    let b : Live = c.index_mut-channel.result.now in
    let h : IsHere c.args.number c.in-Some.i items b =
    here c.args.number c.in-Some.i c.args.self.now items b c.self.view_is c.in-Some.ensures.some c.index_mut-channel.ensures.value in
    both-err c.give_ask-position.result (c.give_ask-position.new.self.held ≡ b.held) (HasRoomOut b c.give_ask-position.new.self 0 0)
    (Edits c.args.number KeepsHeld c.args.self.now (slice_set items c.in-Some.i c.give_ask-position.new.self))
    (λ same room. keeps c.args.number c.in-Some.i c.args.self.now items b c.give_ask-position.new.self c.self.view_is h same room)
    c.give_ask-position.ensures.err c.give_ask-position.ensures.room

pub returns-clause-used : goal.returns-clause-used
returns-clause-used c =
    let items : List Live = c.self.inside.channels.items in
    let b : Live = c.index_mut-channel.result.now in
    let h : IsHere c.args.number c.in-Some.i items b =
    here c.args.number c.in-Some.i c.args.self.now items b c.self.view_is c.in-Some.ensures.some c.index_mut-channel.ensures.value in
    on-ok c.give_ask-position.result (HasRoomOut b c.give_ask-position.new.self (length c.args.octets.now) 1)
    (Edits c.args.number (UsesRoom (length c.args.octets.now)) c.args.self.now (slice_set items c.in-Some.i c.give_ask-position.new.self))
    (λ used. edited c.args.number c.in-Some.i (UsesRoom (length c.args.octets.now)) c.args.self.now items b c.give_ask-position.new.self c.self.view_is h c.give_ask-position.ensures.same.number
    (record { used = used }))
    c.give_ask-position.ensures.used

pub returns-clause-succeeds : goal.returns-clause-succeeds
returns-clause-succeeds c =
    let items : List Live = c.self.inside.channels.items in
    let b : Live = c.index_mut-channel.result.now in
    let h : IsHere c.args.number c.in-Some.i items b =
    here c.args.number c.in-Some.i c.args.self.now items b c.self.view_is c.in-Some.ensures.some c.index_mut-channel.ensures.value in
    let was : live_at c.args.number c.args.self.now ≡ Some b = was-now c.args.number c.in-Some.i c.args.self.now items b c.self.view_is h in
    at-live (live_at c.args.number c.args.self.now) b
    (λ channel. length c.args.octets.now ≤ channel.octets → 0 < channel.messages → ask_refusal channel.held (length c.args.octets.now) ≡ None → IsOk c.give_ask-position.result)
    was c.give_ask-position.ensures.succeeds
