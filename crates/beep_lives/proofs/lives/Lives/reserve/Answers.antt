-- Room alone changes.
use Rattle.std.proofs.Common.{◌≤◌, ℕ, List, slice_set, Some, sym, ap, ◌∙◌, arith, IfSome}
use Rattle.beep_channel.specs.Held.{Live, Held}
use Rattle.beep_lives.specs.Lives.{live_at, runs_of}
use Rattle.beep_lives.proofs.LivesLemmas.{IsHere, here, kept}
use Rattle.beep_lives.proofs.CallLemmas.{is-after, was-now, at-live, on-ok, keeps}
use Rattle.beep_lives.proofs.lives.Lives.reserve.Goals as goal

pub invariant_of-self : goal.invariant_of-self
invariant_of-self c =
    let items : List Live = c.self.inside.channels.items in
    let b : Live = c.index_mut-channel.result.now in
    let h : IsHere c.args.number c.in-Some.i items b =
    here c.args.number c.in-Some.i c.args.self.now items b c.self.view_is c.in-Some.ensures.some c.index_mut-channel.ensures.value in
    let ready_room = c.note.ensures.ready_room in
    let due_room = c.note.ensures.due_room in
    let ready_was = c.self.invariant.2 in
    let due_was = c.self.invariant.3 in (
      kept c.args.number c.in-Some.i c.self.inside.turns items c.self.inside.ready.items c.self.inside.due.items b c.reserve-reserved.new.self c.note.new.ready.items c.note.new.due.items
          c.self.invariant.0 h (ap (λ (x : Held). x.number) c.reserve-reserved.ensures.kept) c.note.ensures.ready c.note.ensures.due,
      c.self.invariant.1,
      omega (arith, ready_room, ready_was),
      omega (arith, due_room, due_was),
    )

pub returns-clause-ok : goal.returns-clause-ok
returns-clause-ok c =
    let items : List Live = c.self.inside.channels.items in
    let b : Live = c.index_mut-channel.result.now in
    let h : IsHere c.args.number c.in-Some.i items b =
    here c.args.number c.in-Some.i c.args.self.now items b c.self.view_is c.in-Some.ensures.some c.index_mut-channel.ensures.value in
    let after = is-after c.args.number c.in-Some.i items b c.reserve-reserved.new.self h (ap (λ (x : Held). x.number) c.reserve-reserved.ensures.kept) in
    on-ok c.reserve-reserved.result ((c.args.octets ≤ c.reserve-reserved.new.self.octets) × (c.args.messages ≤ c.reserve-reserved.new.self.messages)) (IfSome (live_at c.args.number (slice_set items c.in-Some.i c.reserve-reserved.new.self)) (λ channel. (c.args.octets ≤ channel.octets) × (c.args.messages ≤ channel.messages)))
    (λ room. at-live (live_at c.args.number (slice_set items c.in-Some.i c.reserve-reserved.new.self)) c.reserve-reserved.new.self (λ channel. (c.args.octets ≤ channel.octets) × (c.args.messages ≤ channel.messages)) after room)
    c.reserve-reserved.ensures.ok

pub returns-clause-kept : goal.returns-clause-kept
returns-clause-kept c =
    let items : List Live = c.self.inside.channels.items in
    let b : Live = c.index_mut-channel.result.now in
    let h : IsHere c.args.number c.in-Some.i items b =
    here c.args.number c.in-Some.i c.args.self.now items b c.self.view_is c.in-Some.ensures.some c.index_mut-channel.ensures.value in
    keeps c.args.number c.in-Some.i c.args.self.now items b c.reserve-reserved.new.self c.self.view_is h c.reserve-reserved.ensures.kept c.reserve-reserved.ensures.room

pub returns-clause-runs : goal.returns-clause-runs
returns-clause-runs c =
    let items : List Live = c.self.inside.channels.items in
    let b : Live = c.index_mut-channel.result.now in
    let h : IsHere c.args.number c.in-Some.i items b =
    here c.args.number c.in-Some.i c.args.self.now items b c.self.view_is c.in-Some.ensures.some c.index_mut-channel.ensures.value in
    ap runs_of (is-after c.args.number c.in-Some.i items b c.reserve-reserved.new.self h (ap (λ (x : Held). x.number) c.reserve-reserved.ensures.kept))
    ∙ ap (λ (n : ℕ). Some n) c.reserve-reserved.ensures.runs
    ∙ sym (ap runs_of (was-now c.args.number c.in-Some.i c.args.self.now items b c.self.view_is h))
